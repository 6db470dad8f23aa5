use Rattle.std.proofs.Common.{◌≡◌, ◌++◌, take}
use Rattle.std.specs.Prelude.{string_bytes}
use Rattle.std.specs.List.{flat_map}
use Rattle.lvish_graph.specs.Text.{verb_line, pool_line}
use Rattle.lvish_graph.proofs.text.push_deeds.Given as goal

abbrev pub invariant-loop-verb : goal.invariant-loop-verb
invariant-loop-verb l = string_bytes l.text ≡ string_bytes l.initial.text ++ flat_map (verb_line l.script l.deeds) (take l.verb-index l.verb-items)

abbrev pub invariant-loop-pool : goal.invariant-loop-pool
invariant-loop-pool l = string_bytes l.text ≡ string_bytes l.initial.text ++ flat_map (pool_line l.script l.deeds) (take l.pool-index l.pool-items)
