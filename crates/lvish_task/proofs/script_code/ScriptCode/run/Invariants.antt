use Rattle.std.proofs.Common.{◌≡◌}
use Rattle.lvish_task.specs.Run.{run}
use Rattle.lvish_task.specs.laws.Settling.{pending}
use Rattle.lvish_task.proofs.script_code.ScriptCode.run.Given as goal

abbrev pub invariant-loop-local : goal.invariant-loop-local
invariant-loop-local l = pending l.self.flat l.local.left l.local ≡ run l.self.flat l.fn.local.left l.fn.local.top l.fn.local.below

abbrev pub decreases-loop-local : goal.decreases-loop-local
decreases-loop-local l = l.local.left
