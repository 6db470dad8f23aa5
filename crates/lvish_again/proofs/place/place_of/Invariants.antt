use Rattle.lvish_again.proofs.Places.{IsNotBefore}
use Rattle.lvish_again.proofs.place.place_of.Given as goal

abbrev pub invariant-loop-place : goal.invariant-loop-place
invariant-loop-place g l = IsNotBefore g.E.PartialEq.eq l.labels l.label l.place
