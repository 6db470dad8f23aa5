use Rattle.std.proofs.Common.{[]}
use Rattle.lvish_syntax.specs.declared.procedure.Procedure.{Procedure}
use Rattle.lvish_graph.proofs.Loops.{mapped_more}
use Rattle.lvish_graph.proofs.names.procedure_names.Goals as goal

pub loop-procedure-preserved : goal.loop-procedure-preserved
loop-procedure-preserved c =
    mapped_more (λ (p : Procedure). p.name) c.args.procedures.now c.loop-procedure.procedure-index c.procedure-item.result c.loop-procedure-test.true c.procedure-item.is
    [] _ _ _ c.loop-procedure.invariant c.in_ok-push.ensures.items c.copy.ensures
