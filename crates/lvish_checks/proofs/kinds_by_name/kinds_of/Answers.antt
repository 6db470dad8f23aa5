use Rattle.std.proofs.Common.{◌≡◌, ◌+◌, ◌++◌, ◌∙◌, ap, subst, sym, take, take_all}
use Rattle.lvish_checks.specs.Checks.{declarations, declared_by}
use Rattle.lvish_checks.specs.Known.{AreKinds, AreOfPools}
use Rattle.lvish_checks.proofs.Lines.{taken_with}
use Rattle.lvish_checks.proofs.Scans.{declared_more}
use Rattle.lvish_checks.proofs.kinds_by_name.kinds_of.Goals as goal

pub loop-line-preserved : goal.loop-line-preserved
loop-line-preserved c =
    let before = take c.loop-line.line-index c.args.lines.now in
    let more : declarations before ++ declared_by c.line-item.result ≡ declarations (take (c.loop-line.line-index + 1) c.args.lines.now) = sym (ap declarations (taken_with c.args.lines.now c.loop-line.line-index c.line-item.result c.loop-line-test.true c.line-item.is) ∙ declared_more before c.line-item.result) in
    record {
      variables = subst (AreKinds c.add_line.new.self.variables) more (c.in_ok-add_line.ensures.variables (declarations before) c.loop-line.invariant.variables);
      pools = subst (AreOfPools c.add_line.new.self.pools) more (c.in_ok-add_line.ensures.pools (declarations before) c.loop-line.invariant.pools);
    }

pub returns-clause-variables : goal.returns-clause-variables
returns-clause-variables c = subst (λ lines. AreKinds c.loop-line.kinds.variables (declarations lines)) (take_all c.loop-line.line-index c.args.lines.now c.loop-line-test.false) c.loop-line.invariant.variables

pub returns-clause-pools : goal.returns-clause-pools
returns-clause-pools c = subst (λ lines. AreOfPools c.loop-line.kinds.pools (declarations lines)) (take_all c.loop-line.line-index c.args.lines.now c.loop-line-test.false) c.loop-line.invariant.pools
