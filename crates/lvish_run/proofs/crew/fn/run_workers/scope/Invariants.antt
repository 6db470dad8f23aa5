use Rattle.std.proofs.Common.{◌≡◌, ◌≢◌, true, length}
use Rattle.lvish_run.specs.declared.leave.Leave.TheVariants.{Stopped}
use Rattle.lvish_run.proofs.crew.fn.run_workers.scope.Given as goal

abbrev pub invariant-loop-shift : goal.invariant-loop-shift
invariant-loop-shift g l = g.S.Shift.patient ≡ true → l.worst ≢ Stopped

abbrev pub decreases-loop-shift : goal.decreases-loop-shift
decreases-loop-shift g l = length l.others.items
