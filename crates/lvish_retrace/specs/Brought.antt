-- Which put brought an event.
use Rattle.std.specs.Prelude.{◌≡◌, ℕ, List, ◌∷◌, ◌++◌, Option, Some, None, MatchOption, length, map, slice_get}
use Rattle.lvish_calculus.specs.declared.label.Label.{Label}
use Rattle.lvish_calculus.specs.declared.label.Label.TheVariants.{Act}
use Rattle.lvish_calculus.specs.declared.request.Request.{Request}
use Rattle.lvish_calculus.specs.declared.request.Request.TheVariants.{Put}
use Rattle.lvish_calculus.specs.Machine.{Machine}
use Rattle.lvish_calculus.specs.Handing.{IsAmong, Introduces}
use Rattle.lvish_names.specs.Names.{Name}
use Rattle.lvish_variable.specs.declared.entry.Entry.{Entry}
use Rattle.lvish_variable.specs.Variable.{VariableView as Variable}
use Rattle.lvish_core.specs.Puts.{IsBroughtAfter}
use Rattle.lvish_retrace.specs.declared.bringer.Bringer.{Bringer}

-- the entry that the put has in its variable's log
abbrev pub entry_of : {E : Type 0} → Bringer E → Entry E
entry_of b = record { event = b.event; task = b.task; number = b.number }

-- the puts of entries of v's log that this step brought
abbrev pub noted : {E : Type 0} → ℕ → ℕ → List (Entry E) → List (Bringer E)
noted v step entries = map (λ e. record { variable = v; event = e.event; task = e.task; number = e.number; step = step }) entries

-- the variable that a request puts into
abbrev pub put_variable : {S R L : Type 0} → Request S R L → Option ℕ
put_variable (Put v d) = Some v
put_variable r = None

-- the put brought its event in the run xs: the step of its number is the put of its number of its task, into its variable, and the event is below the variable's state after it and not before it
pub record IsBringer {S E R A L : Type 0} (M : Machine S E R A L) (xs : List (Label E)) (b : Bringer E) : Type 0 where
  pub before : List (Label E)
  pub step : length before ≡ b.step
  pub put : IsBroughtAfter M before xs b.variable (entry_of b)

-- each of the puts brought its event, and each event that a step of the run introduces to one of these variables has its put among them
pub record AreBringers {S E R A L : Type 0} (M : Machine S E R A L) (variables : List (Variable S E)) (xs : List (Label E)) (bs : List (Bringer E)) : Type 0 where
  pub each : (b : Bringer E) → IsAmong b bs → IsBringer M xs b
  pub all : (v : ℕ) (x : Variable S E) → slice_get variables v ≡ Some x → (before after : List (Label E)) (t : Name E) (e : E) → xs ≡ before ++ Act t ∷ after → Introduces M before t v e
      → (b : Bringer E) × IsAmong b bs × (b.variable ≡ v) × (b.event ≡ e)

-- the put has this place, variable and event
pub record IsPutAt {E : Type 0} (bs : List (Bringer E)) (v : ℕ) (e : E) (place : ℕ) : Type 0 where
  pub put : Bringer E
  pub at : slice_get bs place ≡ Some put
  pub variable : put.variable ≡ v
  pub event : put.event ≡ e

-- no put has this variable and event, or the one at this place
abbrev pub IsPutOf : {E : Type 0} → List (Bringer E) → ℕ → E → Option ℕ → Type 0
IsPutOf {E} bs v e place = MatchOption place ((b : Bringer E) → IsAmong b bs → b.variable ≡ v → b.event ≡ e → ⊥) (IsPutAt bs v e)
