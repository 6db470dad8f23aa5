use Rattle.std.proofs.Common.{◌≡◌, ◌-◌, length}
use Rattle.lvish_task.specs.Run.{landing}
use Rattle.lvish_task.proofs.run.landing.Given as goal

abbrev pub invariant-loop-n : goal.invariant-loop-n
invariant-loop-n l = landing l.instructions l.at ≡ landing l.instructions l.initial.at

abbrev pub decreases-loop-n : goal.decreases-loop-n
decreases-loop-n l = length l.instructions - l.at
