use Rattle.std.proofs.Common.{subst, sym, take, take_all}
use Rattle.lvish_checks.specs.Known.{AreVariables, ArePools, AreProcedures}
use Rattle.lvish_checks.proofs.Lines.{taken_with}
use Rattle.lvish_checks.proofs.declared.declared_by.Goals as goal

pub loop-line-preserved : goal.loop-line-preserved
loop-line-preserved c =
    let more = sym (taken_with c.args.lines.now c.loop-line.line-index c.line-item.result c.loop-line-test.true c.line-item.is) in
    record {
      variables = subst (AreVariables c.add.new.self.variables) more (c.in_ok-add.ensures.variables (take c.loop-line.line-index c.args.lines.now) c.loop-line.invariant.variables);
      pools = subst (ArePools c.add.new.self.pools) more (c.in_ok-add.ensures.pools (take c.loop-line.line-index c.args.lines.now) c.loop-line.invariant.pools);
      procedures = subst (AreProcedures c.add.new.self.procedures) more (c.in_ok-add.ensures.procedures (take c.loop-line.line-index c.args.lines.now) c.loop-line.invariant.procedures);
    }

pub returns-clause-variables : goal.returns-clause-variables
returns-clause-variables c = subst (AreVariables c.loop-line.declared.variables) (take_all c.loop-line.line-index c.args.lines.now c.loop-line-test.false) c.loop-line.invariant.variables

pub returns-clause-pools : goal.returns-clause-pools
returns-clause-pools c = subst (ArePools c.loop-line.declared.pools) (take_all c.loop-line.line-index c.args.lines.now c.loop-line-test.false) c.loop-line.invariant.pools

pub returns-clause-procedures : goal.returns-clause-procedures
returns-clause-procedures c = subst (AreProcedures c.loop-line.declared.procedures) (take_all c.loop-line.line-index c.args.lines.now c.loop-line-test.false) c.loop-line.invariant.procedures
