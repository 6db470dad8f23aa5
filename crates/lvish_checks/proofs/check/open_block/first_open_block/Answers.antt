use Rattle.std.proofs.Common.{◌≡◌, ◌∙◌, ◌+◌, ◌==◌, sym, ap, refl, length, add-one, suc}
use Rattle.lvish_checks.specs.Checks.{open_step}
use Rattle.lvish_checks.proofs.Lines.{open_after-more, passed_on, fails_at, passes_all}
use Rattle.lvish_checks.proofs.Scans.{open_fails}
use Rattle.lvish_checks.proofs.check.open_block.first_open_block.Goals as goal

pub returns-then-branch : goal.returns-then-branch
returns-then-branch c =
    let last : (c.loop-k.k + 1 == length c.args.lines.now) ≡ (suc c.loop-k.k == length c.args.lines.now) = rw add-one refl in
    fails_at _ _ c.loop-k.k c.index-lines-k.result c.loop-k-test.true c.index-lines-k.is c.loop-k.invariant.passed
    (sym (open_fails c.args.lines.now c.loop-k.k c.index-lines-k.result c.loop-k-test.true c.index-lines-k.is _ last) ∙ sym (rw c.loop-k.invariant.opened at c.in_ok-fails_with.ensures.fails) ∙ c.if-branch.true)

pub loop-k-preserved : goal.loop-k-preserved
loop-k-preserved c =
    let last : (c.loop-k.k + 1 == length c.args.lines.now) ≡ (suc c.loop-k.k == length c.args.lines.now) = rw add-one refl in
    record {
      opened = c.in_ok-fails_with.ensures.opened ∙ ap (λ o. open_step o c.index-lines-k.result) c.loop-k.invariant.opened ∙ sym (open_after-more c.args.lines.now c.loop-k.k c.index-lines-k.result c.loop-k-test.true c.index-lines-k.is);
      passed = passed_on _ _ c.loop-k.k c.index-lines-k.result c.loop-k-test.true c.index-lines-k.is c.loop-k.invariant.passed
          (sym (open_fails c.args.lines.now c.loop-k.k c.index-lines-k.result c.loop-k-test.true c.index-lines-k.is _ last) ∙ sym (rw c.loop-k.invariant.opened at c.in_ok-fails_with.ensures.fails) ∙ c.if-branch.false);
    }

pub returns : goal.returns
returns c = passes_all _ _ c.loop-k.k c.loop-k-test.false c.loop-k.invariant.passed
