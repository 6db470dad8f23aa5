use Rattle.lvish_alike.specs.Deciding.{FreezesOneOf}
use Rattle.lvish_alike.proofs.Spared.{AllBefore}
use Rattle.lvish_alike.proofs.freezes.first_freeze.Given as goal

abbrev pub invariant-loop-place : goal.invariant-loop-place
invariant-loop-place l = AllBefore (λ j n. FreezesOneOf l.marks n → ⊥) l.own l.place
