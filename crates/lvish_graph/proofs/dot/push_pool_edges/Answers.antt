use Rattle.std.proofs.Common.{◌∙◌, ◌++◌, ap}
use Rattle.std.specs.Prelude.{string_bytes, codes}
use Rattle.lvish_graph.specs.Dot.{edge_line, pool_node, procedure_node}
use Rattle.lvish_graph.proofs.Loops.{joined_more}
use Rattle.lvish_graph.proofs.dot.push_pool_edges.Goals as goal

pub loop-name-preserved : goal.loop-name-preserved
loop-name-preserved c =
    let from = c.as_str.ensures.value ∙ c.in_ok-pool.ensures in
    let to = c.as_str-in-loop-name.ensures.value ∙ c.in_ok-to.ensures in
    let label = c.as_str-in-loop-name-2.ensures.value ∙ c.in_ok-label.ensures.ok ∙ ap (λ t. t ++ codes " handles") c.as_str-adder.ensures in
    let a = pool_node c.args.pool.now in
    let b = procedure_node c.name-item.result in
    joined_more (λ n. edge_line a (procedure_node n) (c.args.from.now ++ codes " handles")) c.as_slice-name-items.result.now c.loop-name.name-index c.name-item.result c.loop-name-test.true c.name-item.is
    (string_bytes c.args.text.now) (string_bytes c.loop-name.text) (string_bytes c.push_edge.new.text) _ c.loop-name.invariant c.in_ok-push_edge.ensures
    (ap (λ t. edge_line t c.as_str-in-loop-name.result.now c.as_str-in-loop-name-2.result.now) from ∙ ap (λ t. edge_line a t c.as_str-in-loop-name-2.result.now) to ∙ ap (λ t. edge_line a b t) label)
