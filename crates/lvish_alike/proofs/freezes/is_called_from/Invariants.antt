use Rattle.std.proofs.Common.{◌≡◌, ◌≤◌, Some}
use Rattle.lvish_alike.specs.Sought.{instruction_calls}
use Rattle.lvish_alike.proofs.Spared.{AllBefore}
use Rattle.lvish_alike.proofs.freezes.is_called_from.Given as goal

abbrev pub invariant-loop-other : goal.invariant-loop-other
invariant-loop-other l = AllBefore (λ j n. l.place ≤ j → instruction_calls n ≡ Some l.routine → ⊥) l.own l.other
