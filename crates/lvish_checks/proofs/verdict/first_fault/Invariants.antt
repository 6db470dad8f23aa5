use Rattle.std.proofs.Common.{◌≡◌, ◌∷◌, ℕ, false, take}
use Rattle.std.specs.Prelude.{map}
use Rattle.std.specs.List.{AllByRecursion}
use Rattle.lvish_checks.specs.Vocabulary.{TooLong}
use Rattle.lvish_checks.specs.Checks.{fails_beside}
use Rattle.lvish_checks.proofs.verdict.first_fault.Given as goal

abbrev pub invariant-loop-fault : goal.invariant-loop-fault
invariant-loop-fault l = AllByRecursion (λ g. (m : ℕ) → fails_beside (map (λ w. w.now) l.lines) l.said l.bad_number g m ≡ false) (TooLong ∷ take l.fault-index l.fault-items)
