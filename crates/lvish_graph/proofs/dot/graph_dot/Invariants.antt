use Rattle.std.proofs.Common.{◌≡◌, ◌++◌, take}
use Rattle.std.specs.Prelude.{string_bytes}
use Rattle.std.specs.List.{flat_map}
use Rattle.lvish_graph.specs.Dot.{declaration_lines, procedure_line, procedure_edges}
use Rattle.lvish_graph.proofs.dot.graph_dot.Given as goal

abbrev pub invariant-loop-declaration : goal.invariant-loop-declaration
invariant-loop-declaration l = string_bytes l.text ≡ string_bytes l.initial.text ++ flat_map declaration_lines (take l.declaration-index l.declaration-items)

abbrev pub invariant-loop-procedure : goal.invariant-loop-procedure
invariant-loop-procedure l = string_bytes l.text ≡ string_bytes l.initial.text ++ flat_map procedure_line (take l.procedure-index l.procedure-items)

abbrev pub invariant-loop-procedure-2 : goal.invariant-loop-procedure-2
invariant-loop-procedure-2 l = string_bytes l.text ≡ string_bytes l.initial.text ++ flat_map (procedure_edges l.script) (take l.procedure-index l.procedure-items)
