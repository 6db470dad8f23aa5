use Rattle.std.proofs.Common.{◌≤◌, length}
use Rattle.lvish_run.proofs.Seats.{at_last, before_last}
use Rattle.lvish_run.proofs.shift.take_seats.Goals as goal

pub invariant_of-push : goal.invariant_of-push
invariant_of-push g c = record { program = c.requires.program; ours = at_last (λ s. length s.deal ≤ g.B.Staff.workers) _ _ _ c.in-Some.ensures.items c.loop-seat.invariant }

pub loop-seat-preserved : goal.loop-seat-preserved
loop-seat-preserved g c = before_last (λ s. length s.deal ≤ g.B.Staff.workers) _ _ _ c.in-Some.ensures.items c.loop-seat.invariant
