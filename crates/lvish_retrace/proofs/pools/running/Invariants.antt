use Rattle.std.proofs.Common.{◌≤◌}
use Rattle.lvish_retrace.proofs.pools.running.Given as goal

abbrev pub invariant-loop-task : goal.invariant-loop-task
invariant-loop-task g l = l.count ≤ l.task-index
