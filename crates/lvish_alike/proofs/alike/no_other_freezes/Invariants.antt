use Rattle.lvish_alike.proofs.Marks.{NoneBefore}
use Rattle.lvish_alike.proofs.alike.no_other_freezes.Given as goal

abbrev pub invariant-loop-place : goal.invariant-loop-place
invariant-loop-place l = NoneBefore l.routines l.marks l.place
