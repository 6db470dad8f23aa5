use Rattle.std.proofs.Common.{◌≡◌, take}
use Rattle.std.specs.Prelude.{string_bytes}
use Rattle.std.specs.List.{flat_map}
use Rattle.lvish_graph.specs.Text.{procedure_text}
use Rattle.lvish_graph.proofs.text.graph_text.Given as goal

abbrev pub invariant-loop-procedure : goal.invariant-loop-procedure
invariant-loop-procedure l = string_bytes l.text ≡ flat_map (procedure_text l.script) (take l.procedure-index l.procedure-items)
