-- Programs of which all ends are one.
use Rattle.std.specs.Prelude.{◌≡◌, ◌≤◌, List, length, IsPermutation}
use Rattle.lvish_calculus.specs.declared.label.Label.{Label}
use Rattle.lvish_calculus.specs.Machine.{Machine}
use Rattle.lvish_calculus.specs.Calculus.{State, IsEnd}
use Rattle.lvish_calculus.specs.Laws.{Reaches, NeverErrs}
use Rattle.lvish_calculus.specs.SameRuns.{SameState}

-- any two runs that end without an error have the same contents, marks, handlers and tasks at their ends, and the same labels in some order
abbrev pub HasOneEnd : {S E R A L : Type 0} → Machine S E R A L → Type 0
HasOneEnd {S} {E} {R} {A} {L} M = (xs ys : List (Label E)) (a b : State S E L) → Reaches M xs a → Reaches M ys b → IsEnd M a → IsEnd M b
    → SameState M M a b × (length xs ≡ length ys) × IsPermutation xs ys

-- a run that ends without an error shows that no run is in error, and that none is longer
abbrev pub OneEndShowsAll : {S E R A L : Type 0} → Machine S E R A L → Type 0
OneEndShowsAll {S} {E} {R} {A} {L} M = (xs : List (Label E)) (a : State S E L) → Reaches M xs a → IsEnd M a → NeverErrs M × ((ys : List (Label E)) (b : State S E L) → Reaches M ys b → length ys ≤ length xs)
