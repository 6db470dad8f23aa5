use Rattle.std.proofs.Common.{◌≡◌, ◌∙◌, sym, ap, subst, take, take_all, false}
use Rattle.lvish_syntax.specs.Name.{has_repeat}
use Rattle.lvish_checks.specs.Known.{HaveSameNames}
use Rattle.std.proofs.lemmas.Bool.{not-true, not-false}
use Rattle.lvish_checks.proofs.Lines.{taken_with}
use Rattle.lvish_checks.proofs.Scans.{repeat_at, no_repeat_more, names_more}
use Rattle.lvish_checks.proofs.check.double_name.has_repeat.Goals as goal

pub returns-then-not-branch : goal.returns-then-not-branch
returns-then-not-branch c = sym (repeat_at c.args.names.now c.loop-name.name-index c.name-item.result c.loop-name-test.true c.name-item.is (sym (c.loop-name.invariant.same c.name-item.result) ∙ not-false _ (sym c.in_ok-add.ensures.fresh ∙ c.if-not-branch.true)))

pub loop-name-preserved : goal.loop-name-preserved
loop-name-preserved c =
    let more = sym (taken_with c.args.names.now c.loop-name.name-index c.name-item.result c.loop-name-test.true c.name-item.is) in
    record {
      same = subst (HaveSameNames c.add.new.self) more (names_more c.loop-name.seen c.add.new.self (take c.loop-name.name-index c.args.names.now) c.name-item.result c.in_ok-add.ensures.names c.loop-name.invariant.same);
      apart = subst (λ t. has_repeat t ≡ false) more (no_repeat_more c.name-item.result (take c.loop-name.name-index c.args.names.now) c.loop-name.invariant.apart (sym (c.loop-name.invariant.same c.name-item.result) ∙ not-true _ (sym c.in_ok-add.ensures.fresh ∙ c.if-not-branch.false)));
    }

pub returns : goal.returns
returns c = sym (ap has_repeat (sym (take_all c.loop-name.name-index c.args.names.now c.loop-name-test.false)) ∙ c.loop-name.invariant.apart)
