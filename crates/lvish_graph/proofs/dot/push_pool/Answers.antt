use Rattle.std.proofs.Common.{◌≡◌, ◌++◌, ◌∙◌, OnOk, ap, subst, append_assoc}
use Rattle.std.specs.Prelude.{string_bytes, codes}
use Rattle.lvish_graph.specs.Dot.{node_line, plain_edge_line, variable_node, pool_node}
use Rattle.lvish_graph.proofs.dot.push_pool.Goals as goal

pub returns : goal.returns
returns c =
    let old = string_bytes c.args.text.now in
    let node = pool_node c.args.pool.now in
    let from = variable_node c.args.variable.now in
    let first = c.in_ok-push_node.ensures ∙ ap (λ t. old ++ node_line t c.args.pool.now (codes "diamond")) (c.as_str.ensures.value ∙ c.in_ok-node.ensures) in
    let edge = ap (λ t. plain_edge_line t c.as_str-3.result.now) (c.as_str-2.ensures.value ∙ c.in_ok-from.ensures) ∙ ap (λ t. plain_edge_line from t) (c.as_str-3.ensures.value ∙ c.in_ok-node.ensures) in
    let all = ap (λ t. t ++ plain_edge_line c.as_str-2.result.now c.as_str-3.result.now) first ∙ append_assoc old (node_line node c.args.pool.now (codes "diamond")) _ ∙ ap (λ t. old ++ (node_line node c.args.pool.now (codes "diamond") ++ t)) edge in
    subst (λ t. OnOk c.push_plain_edge.result (string_bytes c.push_plain_edge.new.text ≡ t)) all c.push_plain_edge.ensures
