use Rattle.std.proofs.Common.{◌≡◌, drop}
use Rattle.std.specs.Cmp.Lexicographic.{pointwise}
use Rattle.lvish_compound.specs.contracts.event.EventPartialEq.TheImpl.{eq-value}
use Rattle.lvish_task.proofs.remaining.Remaining.is_equal.Given as goal

abbrev pub invariant-loop-place : goal.invariant-loop-place
invariant-loop-place l = pointwise eq-value.it l.self l.other ≡ pointwise eq-value.it (drop l.place l.self) (drop l.place l.other)
