use Rattle.std.proofs.Common.{◌≡◌, ◌++◌, map, take}
use Rattle.lvish_compound.specs.Pair.{of_one, of_two}
use Rattle.lvish_compound.proofs.side_of.of_sides.Given as goal

abbrev pub invariant-loop-x : goal.invariant-loop-x
invariant-loop-x g l = l.sides.items ≡ map of_one (take l.x-index l.ones)

abbrev pub invariant-loop-y : goal.invariant-loop-y
invariant-loop-y g l = l.sides.items ≡ map of_one l.ones ++ map of_two (take l.y-index l.twos)
