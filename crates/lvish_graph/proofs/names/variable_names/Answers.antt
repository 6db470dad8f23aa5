use Rattle.std.proofs.Common.{[], ◌∷◌, ◌∙◌, sym, ap}
use Rattle.std.proofs.lemmas.List.{append-nil}
use Rattle.lvish_syntax.specs.Sound.{variable_name}
use Rattle.lvish_graph.proofs.Loops.{joined_more}
use Rattle.lvish_graph.proofs.names.variable_names.Goals as goal
use Rattle.lvish_graph.proofs.names.variable_names.Goals.{in-Variable+in_ok-push-in-Variable, in-Pool}

pub loop-declaration-preserved : goal.loop-declaration-preserved
loop-declaration-preserved c =
    elim c.match-declaration.branch [
      | in-Variable+in_ok-push-in-Variable w ↦ joined_more variable_name c.args.declarations.now c.loop-declaration.declaration-index c.declaration-item.result c.loop-declaration-test.true c.declaration-item.is [] c.loop-declaration.names.items _ _ c.loop-declaration.invariant (ap (λ v. v.items) w.names-is ∙ w.in_ok-push-in-Variable.ensures.items) (ap (λ n. n ∷ []) w.copy.ensures ∙ ap variable_name (sym w.in-Variable.is))
      | in-Pool w ↦ joined_more variable_name c.args.declarations.now c.loop-declaration.declaration-index c.declaration-item.result c.loop-declaration-test.true c.declaration-item.is [] c.loop-declaration.names.items _ [] c.loop-declaration.invariant (ap (λ v. v.items) w.names-is ∙ sym (append-nil _)) (ap variable_name (sym w.in-Pool.is))
    ]
