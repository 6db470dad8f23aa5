use Rattle.std.proofs.Common.{◌≡◌, ◌++◌, take, map}
use Rattle.lvish_graph.specs.declared.deed.Deed.TheVariants.{Does}
use Rattle.lvish_graph.specs.declared.verb.Verb.TheVariants.{Awaits}
use Rattle.lvish_graph.proofs.deed.push_awaited.Given as goal

abbrev pub invariant-loop-pool : goal.invariant-loop-pool
invariant-loop-pool l = l.deeds.items ≡ l.initial.deeds.items ++ map (λ p. Does Awaits p) (take l.pool-index l.pools)
