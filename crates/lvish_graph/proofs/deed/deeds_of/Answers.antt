use Rattle.std.proofs.Common.{◌++◌, ◌∙◌, sym, ap}
use Rattle.std.specs.List.{flat_map}
use Rattle.lvish_syntax.specs.Nested.{statements}
use Rattle.lvish_graph.specs.Deeds.{statement_deeds}
use Rattle.lvish_graph.proofs.Layers.{deeds_all}
use Rattle.lvish_graph.proofs.deed.deeds_of.Goals as goal

pub returns : goal.returns
returns c =
    let body = statements c.args.procedure.now.body in
    c.in_ok-push_block.ensures ∙ ap (λ ds. ds ++ flat_map statement_deeds body) c.new-deeds.ensures.items ∙ sym (deeds_all body)
