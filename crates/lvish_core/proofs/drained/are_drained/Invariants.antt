use Rattle.std.proofs.Common.{length}
use Rattle.lvish_core.proofs.Ready.{HandedBelow}
use Rattle.lvish_core.proofs.drained.are_drained.Given as goal

abbrev pub invariant-loop-variable : goal.invariant-loop-variable
invariant-loop-variable g l = HandedBelow l.fn.variables l.fn.handlers (length l.yielded)
