use Rattle.std.proofs.Common.{◌-◌}
use Rattle.lvish_compound.proofs.Placed.{IsNarrowed}
use Rattle.lvish_compound.proofs.block.place.Given as goal

abbrev pub invariant-loop-low : goal.invariant-loop-low
invariant-loop-low g l = IsNarrowed g.K.Ord.cmp l.of l.entries l.low l.top

abbrev pub decreases-loop-low : goal.decreases-loop-low
decreases-loop-low g l = l.top - l.low
