use Rattle.lvish_alike.specs.Deciding.{WaitsFor}
use Rattle.lvish_alike.proofs.Spared.{AllBefore}
use Rattle.lvish_alike.proofs.freezes.is_waited_for.Given as goal

abbrev pub invariant-loop-other : goal.invariant-loop-other
invariant-loop-other l = AllBefore (λ j n. WaitsFor n l.pool → ⊥) l.own l.other
