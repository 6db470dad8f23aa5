use Rattle.std.proofs.Common.{◌≡◌, ◌≤◌, length, drop}
use Rattle.lvish_task.proofs.Changes.{LeaveAlone}
use Rattle.lvish_task.proofs.shared_numbers.change_again.Given as goal

abbrev pub invariant-loop-place : goal.invariant-loop-place
invariant-loop-place l = record {
  same : l.changes ≡ l.fn.changes;
  within : l.place ≤ length l.changes;
  alone : LeaveAlone l.change.local (drop l.place l.changes);
}

abbrev pub decreases-loop-place : goal.decreases-loop-place
decreases-loop-place l = l.place
