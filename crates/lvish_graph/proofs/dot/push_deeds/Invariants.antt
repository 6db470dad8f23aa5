use Rattle.std.proofs.Common.{◌≡◌, ◌++◌, take}
use Rattle.std.specs.Prelude.{string_bytes}
use Rattle.std.specs.List.{flat_map}
use Rattle.lvish_graph.specs.Dot.{verb_edges, pool_edges}
use Rattle.lvish_graph.proofs.dot.push_deeds.Given as goal

abbrev pub invariant-loop-verb : goal.invariant-loop-verb
invariant-loop-verb l = string_bytes l.text ≡ string_bytes l.initial.text ++ flat_map (verb_edges l.script l.deeds l.from) (take l.verb-index l.verb-items)

abbrev pub invariant-loop-pool : goal.invariant-loop-pool
invariant-loop-pool l = string_bytes l.text ≡ string_bytes l.initial.text ++ flat_map (pool_edges l.script l.deeds l.from) (take l.pool-index l.pool-items)
