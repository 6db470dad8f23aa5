use Rattle.lvish_alike.proofs.Written.{CallsKeepBefore}
use Rattle.lvish_alike.proofs.layered.calls_keep.Given as goal

abbrev pub invariant-loop-routine : goal.invariant-loop-routine
invariant-loop-routine l = CallsKeepBefore l.own l.pools l.routines l.routine
