use Rattle.lvish_try.proofs.Places.{IsNotBefore}
use Rattle.lvish_try.proofs.place.place_of.Given as goal

abbrev pub invariant-loop-place : goal.invariant-loop-place
invariant-loop-place l = IsNotBefore l.texts l.text l.place
