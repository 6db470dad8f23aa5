use Rattle.std.proofs.Common.{Bool, [], ◌∷◌, ◌++◌, sym, ap, ◌∙◌}
use Rattle.std.specs.List.{list_any}
use Rattle.lvish_syntax.specs.Words.{Word}
use Rattle.lvish_graph.specs.Deeds.{does}
use Rattle.lvish_graph.proofs.Loops.{taken_more, left_out}
use Rattle.lvish_graph.proofs.told.targets.Goals as goal
use Rattle.lvish_graph.proofs.told.targets.Goals.{then-any_does+in_ok-push, else-any_does}

pub loop-name-preserved : goal.loop-name-preserved
loop-name-preserved c =
    let f : Word → Bool = λ n. list_any (does c.args.verb n) c.args.deeds.now in
    let xs = c.as_slice-name-items.result.now in
    elim c.if-any_does.branch [
      | then-any_does+in_ok-push w ↦ taken_more f xs c.loop-name.name-index c.name-item.result c.loop-name-test.true c.name-item.is c.loop-name.told.items c.loop-name.invariant c.if-any_does.told.items (sym c.any_does.ensures ∙ w.if-any_does.true) (ap (λ v. v.items) w.told-is ∙ w.in_ok-push.ensures.items ∙ ap (λ n. c.loop-name.told.items ++ n ∷ []) w.copy.ensures)
      | else-any_does w ↦ left_out f xs c.loop-name.name-index c.name-item.result c.loop-name-test.true c.name-item.is c.loop-name.told.items c.loop-name.invariant c.if-any_does.told.items (sym c.any_does.ensures ∙ w.if-any_does.false) (ap (λ v. v.items) w.told-is)
    ]
