use Rattle.std.proofs.Common.{◌≤◌}
use Rattle.lvish_task.specs.Stride.{KeepsAsking}
use Rattle.lvish_task.proofs.Strides.{to_take}
use Rattle.lvish_task.proofs.beside.strides_beside.Given as goal

abbrev pub invariant-loop-reached : goal.invariant-loop-reached
invariant-loop-reached l = record {
  same : KeepsAsking l.instructions l.fn.from l.fn.values l.reached l.values;
  fewer : l.reached.left ≤ l.fn.from.left;
}

abbrev pub decreases-loop-reached : goal.decreases-loop-reached
decreases-loop-reached l = to_take l.instructions l.reached
