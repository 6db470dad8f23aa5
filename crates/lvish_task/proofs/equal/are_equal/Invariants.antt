use Rattle.std.proofs.Common.{◌≡◌, ◌&&◌, drop}
use Rattle.std.specs.Cmp.Lexicographic.{pointwise}
use Rattle.lvish_task.proofs.equal.are_equal.Given as goal

abbrev pub invariant-loop-i : goal.invariant-loop-i
invariant-loop-i g l = pointwise g.T.PartialEq.eq l.xs l.ys ≡ (l.same && pointwise g.T.PartialEq.eq (drop l.i l.xs) (drop l.i l.ys))
