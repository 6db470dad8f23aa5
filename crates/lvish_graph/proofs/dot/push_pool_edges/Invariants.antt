use Rattle.std.proofs.Common.{◌≡◌, ◌++◌, take}
use Rattle.std.specs.Prelude.{string_bytes, codes}
use Rattle.std.specs.List.{flat_map}
use Rattle.lvish_graph.specs.Dot.{edge_line, pool_node, procedure_node}
use Rattle.lvish_graph.proofs.dot.push_pool_edges.Given as goal

abbrev pub invariant-loop-name : goal.invariant-loop-name
invariant-loop-name l = string_bytes l.text ≡ string_bytes l.initial.text ++ flat_map (λ n. edge_line (pool_node l.fn.pool) (procedure_node n) (l.from ++ codes " handles")) (take l.name-index l.name-items)
