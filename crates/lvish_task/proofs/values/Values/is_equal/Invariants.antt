use Rattle.std.proofs.Common.{◌≡◌, ◌&&◌, drop}
use Rattle.std.specs.Ordering.{int_eq}
use Rattle.std.specs.Cmp.Lexicographic.{pointwise}
use Rattle.lvish_task.proofs.values.Values.is_equal.Given as goal

abbrev pub invariant-loop-local : goal.invariant-loop-local
invariant-loop-local l = pointwise int_eq l.self l.other ≡ (l.same && pointwise int_eq (drop l.local l.self) (drop l.local l.other))
