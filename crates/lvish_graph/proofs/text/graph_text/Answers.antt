use Rattle.std.proofs.Common.{[], refl}
use Rattle.lvish_graph.specs.Text.{procedure_text}
use Rattle.lvish_graph.proofs.Loops.{joined_more}
use Rattle.lvish_graph.proofs.text.graph_text.Goals as goal

pub loop-procedure-preserved : goal.loop-procedure-preserved
loop-procedure-preserved c =
    joined_more (procedure_text c.args.script.now) c.procedures-procedure-items.result.now c.loop-procedure.procedure-index c.procedure-item.result c.loop-procedure-test.true c.procedure-item.is
    [] _ _ _ c.loop-procedure.invariant c.in_ok-push_procedure.ensures refl
