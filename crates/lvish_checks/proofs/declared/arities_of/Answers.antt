use Rattle.std.proofs.Common.{subst, sym, take, take_all}
use Rattle.lvish_checks.specs.Known.{AreArities}
use Rattle.lvish_checks.proofs.Lines.{taken_with}
use Rattle.lvish_checks.proofs.declared.arities_of.Goals as goal

pub loop-line-preserved : goal.loop-line-preserved
loop-line-preserved c = subst (AreArities c.add_arity.new.arities) (sym (taken_with c.args.lines.now c.loop-line.line-index c.line-item.result c.loop-line-test.true c.line-item.is)) (c.in_ok-add_arity.ensures (take c.loop-line.line-index c.args.lines.now) c.loop-line.invariant)

pub returns : goal.returns
returns c = subst (AreArities c.loop-line.arities) (take_all c.loop-line.line-index c.args.lines.now c.loop-line-test.false) c.loop-line.invariant
