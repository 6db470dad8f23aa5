use Rattle.std.proofs.Common.{◌≡◌, ◌++◌, take}
use Rattle.std.specs.Prelude.{string_bytes}
use Rattle.lvish_graph.specs.Text.{spaced}
use Rattle.lvish_graph.proofs.text.push_spaced.Given as goal

abbrev pub invariant-loop-name : goal.invariant-loop-name
invariant-loop-name l = string_bytes l.text ≡ string_bytes l.initial.text ++ spaced (take l.name-index l.names)
