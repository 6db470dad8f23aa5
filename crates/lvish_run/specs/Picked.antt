-- Runs that follow a list of picks.
use Rattle.std.specs.Prelude.{◌≡◌, ◌↔◌, ◌⊎◌, ◌%◌, ℕ, List, [], ◌∷◌, ◌++◌, length, Option, Some, None, slice_get}
use Rattle.std.specs.declared.cmp.Ordering.{Ordering}
use Rattle.std.specs.declared.cmp.Ordering.TheVariants.{Less}
use Rattle.std.specs.List.Sorted.{IsStrictlySortedBy}
use Rattle.lvish_calculus.specs.declared.label.Label.{Label}
use Rattle.lvish_calculus.specs.Machine.{Machine}
use Rattle.lvish_calculus.specs.Calculus.{Configuration, CanStep, next}
use Rattle.lvish_calculus.specs.Handing.{IsAmong, HandsOldestFirst}
use Rattle.lvish_core.specs.Labels.{label_cmp}

module _ {S E R A L : Type 0} (M : Machine S E R A L) where
  -- the label is enabled in d, to which the run xs leads, and with it the run hands each handler the events in the order of their introduction
  abbrev pub ComesNext : List (Label E) → Configuration S E L → Label E → Type 0
  ComesNext xs d l = CanStep M d l × HandsOldestFirst M (xs ++ l ∷ [])

-- just the labels that come next; tasks by name, then handlers by name
pub record AreNext {S E R A L : Type 0} (cmp : E → E → Ordering) (M : Machine S E R A L) (xs : List (Label E)) (d : Configuration S E L) (ls : List (Label E)) : Type 0 where
  pub ascending : IsStrictlySortedBy (label_cmp cmp) ls
  pub just : (l : Label E) → IsAmong l ls ↔ ComesNext M xs d l

-- of the labels that come next, l is the one whose number is the pick modulo their count
pub record IsChoice {S E R A L : Type 0} (cmp : E → E → Ordering) (M : Machine S E R A L) (xs : List (Label E)) (d : Configuration S E L) (n : ℕ) (l : Label E) : Type 0 where
  pub all : List (Label E)
  pub enabled : AreNext cmp M xs d all
  pub chosen : slice_get all (n % length all) ≡ Some l

-- of the labels that come next, l is the first: a task's before a handler's, and either by name
pub record IsFirst {S E R A L : Type 0} (cmp : E → E → Ordering) (M : Machine S E R A L) (xs : List (Label E)) (d : Configuration S E L) (l : Label E) : Type 0 where
  pub comes : ComesNext M xs d l
  pub before : (m : Label E) → ComesNext M xs d m → (m ≡ l) ⊎ (label_cmp cmp l m ≡ Less)

-- l is the label that a pick names, and the first where the picks are used up
abbrev pub IsNamed : {S E R A L : Type 0} → (E → E → Ordering) → Machine S E R A L → List (Label E) → Configuration S E L → Option ℕ → Label E → Type 0
IsNamed cmp M xs d (Some n) l = IsChoice cmp M xs d n l
IsNamed cmp M xs d None l = IsFirst cmp M xs d l

-- after the steps xs, which lead to d, each step takes the label that its pick names
abbrev pub IsPicked : {S E R A L : Type 0} → (E → E → Ordering) → Machine S E R A L → List ℕ → List (Label E) → Configuration S E L → List (Label E) → Type 0
IsPicked cmp M picks xs d [] = Unit {0}
IsPicked cmp M picks xs d (l ∷ ls) = IsNamed cmp M xs d (slice_get picks (length xs)) l × IsPicked cmp M picks (xs ++ l ∷ []) (next M d l) ls
