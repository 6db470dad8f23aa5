use Rattle.std.proofs.Common.{◌≡◌, length}
use Rattle.lvish_task.specs.Run.{settled}
use Rattle.lvish_task.proofs.script_code.ScriptCode.settle.Given as goal

abbrev pub invariant-loop-alloc : goal.invariant-loop-alloc
invariant-loop-alloc l = settled l.self.flat l.local ≡ settled l.self.flat l.fn.local

abbrev pub decreases-loop-alloc : goal.decreases-loop-alloc
decreases-loop-alloc l = length l.local.below
