use Rattle.std.proofs.Common.{length, ◌≡◌}
use Rattle.std.specs.Cmp.Lexicographic.{pointwise}
use Rattle.lvish_lattice.proofs.elements.Elements.is_equal.Given as goal

abbrev pub invariant-loop-x : goal.invariant-loop-x
invariant-loop-x g l = pointwise g.V.PartialEq.eq l.first l.second ≡ pointwise g.V.PartialEq.eq l.self l.other

abbrev pub decreases-loop-x : goal.decreases-loop-x
decreases-loop-x g l = length l.first
