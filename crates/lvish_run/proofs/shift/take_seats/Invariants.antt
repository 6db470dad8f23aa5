use Rattle.std.proofs.Common.{◌≤◌, All, length}
use Rattle.lvish_run.proofs.shift.take_seats.Given as goal

abbrev pub invariant-loop-seat : goal.invariant-loop-seat
invariant-loop-seat g l = All (λ s. length s.deal ≤ g.B.Staff.workers) l.seats.items

abbrev pub decreases-loop-seat : goal.decreases-loop-seat
decreases-loop-seat g l = length l.seats.items
