use Rattle.std.proofs.Common.{◌≡◌, ◌++◌, take}
use Rattle.std.specs.Prelude.{string_bytes}
use Rattle.std.specs.List.{flat_map}
use Rattle.lvish_graph.specs.Text.{verb_text}
use Rattle.lvish_graph.specs.Dot.{edge_line, procedure_node, target_node}
use Rattle.lvish_graph.proofs.dot.push_verb_edges.Given as goal

abbrev pub invariant-loop-name : goal.invariant-loop-name
invariant-loop-name l = string_bytes l.text ≡ string_bytes l.initial.text ++ flat_map (λ n. edge_line (procedure_node l.fn.from) (target_node l.verb n) (verb_text l.verb)) (take l.name-index l.name-items)
