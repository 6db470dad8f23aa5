use Rattle.std.proofs.Common.{◌∙◌, ap}
use Rattle.std.specs.Prelude.{string_bytes}
use Rattle.lvish_graph.specs.Text.{verb_text}
use Rattle.lvish_graph.specs.Dot.{edge_line, procedure_node, target_node}
use Rattle.lvish_graph.proofs.Loops.{joined_more}
use Rattle.lvish_graph.proofs.dot.push_verb_edges.Goals as goal

pub loop-name-preserved : goal.loop-name-preserved
loop-name-preserved c =
    let from = c.as_str.ensures.value ∙ c.in_ok-from.ensures in
    let to = c.as_str-in-loop-name.ensures.value ∙ c.in_ok-to.ensures in
    let a = procedure_node c.args.from.now in
    let b = target_node c.args.verb c.name-item.result in
    joined_more (λ n. edge_line a (target_node c.args.verb n) (verb_text c.args.verb)) c.as_slice-name-items.result.now c.loop-name.name-index c.name-item.result c.loop-name-test.true c.name-item.is
    (string_bytes c.args.text.now) (string_bytes c.loop-name.text) (string_bytes c.push_edge.new.text) _ c.loop-name.invariant c.in_ok-push_edge.ensures
    (ap (λ t. edge_line t c.as_str-in-loop-name.result.now c.text.result.now) from ∙ ap (λ t. edge_line a t c.text.result.now) to ∙ ap (λ t. edge_line a b t) c.text.ensures)
