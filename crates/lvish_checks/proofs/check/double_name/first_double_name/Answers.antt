use Rattle.std.proofs.Common.{◌∙◌, sym, subst, take}
use Rattle.lvish_checks.specs.Known.{AreVariables, ArePools, AreProcedures}
use Rattle.lvish_checks.proofs.Lines.{taken_with, passed_on, fails_at, passes_all}
use Rattle.lvish_checks.proofs.check.double_name.first_double_name.Goals as goal

pub returns-then-branch : goal.returns-then-branch
returns-then-branch c = fails_at _ _ c.loop-k.k c.index-lines-k.result c.loop-k-test.true c.index-lines-k.is c.loop-k.invariant.passed (sym (c.in_ok-declares_again.ensures (take c.loop-k.k c.args.lines.now) c.loop-k.invariant.variables c.loop-k.invariant.pools c.loop-k.invariant.procedures) ∙ c.if-branch.true)

pub loop-k-preserved : goal.loop-k-preserved
loop-k-preserved c =
    let more = sym (taken_with c.args.lines.now c.loop-k.k c.index-lines-k.result c.loop-k-test.true c.index-lines-k.is) in
    record {
      variables = subst (AreVariables c.add.new.self.variables) more (c.in_ok-add.ensures.variables (take c.loop-k.k c.args.lines.now) c.loop-k.invariant.variables);
      pools = subst (ArePools c.add.new.self.pools) more (c.in_ok-add.ensures.pools (take c.loop-k.k c.args.lines.now) c.loop-k.invariant.pools);
      procedures = subst (AreProcedures c.add.new.self.procedures) more (c.in_ok-add.ensures.procedures (take c.loop-k.k c.args.lines.now) c.loop-k.invariant.procedures);
      passed = passed_on _ _ c.loop-k.k c.index-lines-k.result c.loop-k-test.true c.index-lines-k.is c.loop-k.invariant.passed (sym (c.in_ok-declares_again.ensures (take c.loop-k.k c.args.lines.now) c.loop-k.invariant.variables c.loop-k.invariant.pools c.loop-k.invariant.procedures) ∙ c.if-branch.false);
    }

pub returns : goal.returns
returns c = passes_all _ _ c.loop-k.k c.loop-k-test.false c.loop-k.invariant.passed
