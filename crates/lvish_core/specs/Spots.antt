-- What can wake a get.
use Rattle.std.specs.Prelude.{◌≡◌, ℕ, List, Option, Some, None, Contains, slice_get}
use Rattle.lvish_core.specs.Vocabulary.{Label, Entry, Stepped}
use Rattle.lvish_calculus.specs.Machine.{Machine}
use Rattle.lvish_variable.specs.Variable.{VariableView as Variable, logged}
use Rattle.lvish_core.specs.Changes.{brought}
use Rattle.lvish_core.specs.Core.{CoreView, state, IsRunTo, IsStep}

-- one of the entries has an event of this spot
pub record HasSpot {E W : Type 0} (spot_of : E → W) (w : W) (entries : List (Entry E)) : Type 0 where
  pub event : E
  pub there : Contains (logged entries) event
  pub at : spot_of event ≡ w

-- a read of v that waits at a spot gets an answer by a step only where the step brought an event of this spot to v's log
abbrev pub WakesAtItsSpot : {S E R A L W : Type 0} → Type 0 → Machine S E R A L → (E → W) → (R → Option W) → Type 0
WakesAtItsSpot {S} {E} {R} {A} {L} {W} P M spot_of watched = (c d : CoreView P S E L) (xs : List (Label E)) (l : Label E) (said : Stepped) → IsRunTo M c xs → IsStep M c l d said
    → (v : ℕ) (x y : Variable S E) → slice_get c.table.variables v ≡ Some x → slice_get d.table.variables v ≡ Some y
    → (r : R) (w : W) → watched r ≡ Some w → M.answer r x.state ≡ None → (a : A) → M.answer r y.state ≡ Some a → HasSpot spot_of w (brought M (state M c) l v)
