use Rattle.lvish_outcome.specs.Count.{AreCounts}
use Rattle.lvish_outcome.proofs.count.counts_of.Given as goal

abbrev pub invariant-loop-line : goal.invariant-loop-line
invariant-loop-line l = AreCounts l.at l.counts.items
