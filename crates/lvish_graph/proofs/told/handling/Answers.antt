use Rattle.std.proofs.Common.{Bool, [], ◌∷◌, ◌++◌, sym, ap, ◌∙◌}
use Rattle.std.specs.List.{list_any}
use Rattle.lvish_syntax.specs.Words.{Word}
use Rattle.lvish_graph.specs.Deeds.{handles}
use Rattle.lvish_graph.proofs.Loops.{taken_more, left_out}
use Rattle.lvish_graph.proofs.told.handling.Goals as goal
use Rattle.lvish_graph.proofs.told.handling.Goals.{then-any_handles+in_ok-push, else-any_handles}

pub loop-procedure-preserved : goal.loop-procedure-preserved
loop-procedure-preserved c =
    let f : Word → Bool = λ n. list_any (handles c.args.pool.now n) c.args.deeds.now in
    let xs = c.args.procedures.now in
    elim c.if-any_handles.branch [
      | then-any_handles+in_ok-push w ↦ taken_more f xs c.loop-procedure.procedure-index c.procedure-item.result c.loop-procedure-test.true c.procedure-item.is c.loop-procedure.told.items c.loop-procedure.invariant c.if-any_handles.told.items (sym c.any_handles.ensures ∙ w.if-any_handles.true) (ap (λ v. v.items) w.told-is ∙ w.in_ok-push.ensures.items ∙ ap (λ n. c.loop-procedure.told.items ++ n ∷ []) w.copy.ensures)
      | else-any_handles w ↦ left_out f xs c.loop-procedure.procedure-index c.procedure-item.result c.loop-procedure-test.true c.procedure-item.is c.loop-procedure.told.items c.loop-procedure.invariant c.if-any_handles.told.items (sym c.any_handles.ensures ∙ w.if-any_handles.false) (ap (λ v. v.items) w.told-is)
    ]
