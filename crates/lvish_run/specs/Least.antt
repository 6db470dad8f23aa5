-- What a report's contents are among all models of the program.
use Rattle.std.specs.Prelude.{◌≡◌, ◌++◌, ℕ, true, false, List, [], ◌∷◌, Option, Some, None, option_map, unwrap_or, slice_get, if◌then◌else◌}
use Rattle.lvish_lattice.specs.Lattice.{IsAtOrBelow}
use Rattle.lvish_calculus.specs.declared.label.Label.{Label}
use Rattle.lvish_calculus.specs.Machine.{Machine}
use Rattle.lvish_calculus.specs.Calculus.{State}
use Rattle.lvish_calculus.specs.Laws.{Reaches}
use Rattle.lvish_calculus.specs.LeastModel.{HasAllPuts, IsClosed, frozen_contents, LeavesNoFreeze}
use Rattle.lvish_report.specs.declared.report.FinalState.{FinalState}
use Rattle.lvish_report.specs.declared.report.Report.{Report}
use Rattle.lvish_trace.specs.declared.outcome.Outcome.TheVariants.{Ended}
use Rattle.lvish_trace.specs.Traced.{labels_of}

-- the content of each variable, by a list of the variables' states: bottom where the list has none
abbrev pub content_in : {S : Type 0} → S → List (FinalState S) → ℕ → S
content_in bottom states v = unwrap_or (option_map (λ s. s.content) (slice_get states v)) bottom

-- the content of a variable in this state, if it is frozen
abbrev pub frozen_content : {S : Type 0} → Option (FinalState S) → Option S
frozen_content None = None
frozen_content (Some s) = if s.frozen then Some s.content else None

-- the contents of the frozen variables, by such a list
abbrev pub frozen_in : {S : Type 0} → List (FinalState S) → ℕ → Option S
frozen_in states v = frozen_content (slice_get states v)

-- no report tells more than each model has that agrees with what its run froze
pub record IsLeast {S E R A L : Type 0} (M : Machine S E R A L) (r : Report S E) : Type 0 where
  -- the contents that it tells are at or below those of the model
  pub told : (Y : ℕ → S) → HasAllPuts M Y (frozen_in r.states) → (v : ℕ) → IsAtOrBelow M.join (content_in M.bottom r.states v) (Y v)
  -- and so are those to which the first steps of its trace lead, also where its last step is an error
  pub before : (xs ys : List (Label E)) (c : State S E L) → labels_of r.trace ≡ xs ++ ys → Reaches M xs c
      → (Y : ℕ → S) → HasAllPuts M Y (frozen_contents M c) → (v : ℕ) → IsAtOrBelow M.join (c.content v) (Y v)

-- the contents that a report of an end tells are closed, with what is frozen, if no task is left at a freeze of a frozen variable
abbrev pub IsClosedEnd : {S E R A L : Type 0} → Machine S E R A L → Report S E → Type 0
IsClosedEnd {S} {E} {R} {A} {L} M r = r.outcome ≡ Ended → (c : State S E L) → Reaches M (labels_of r.trace) c → LeavesNoFreeze M c
    → IsClosed M (content_in M.bottom r.states) (frozen_in r.states)

-- the contents have all that tasks put which play against them, and are at or below those of every other model with the same frozen contents
pub record IsLeastModel {S E R A L : Type 0} (M : Machine S E R A L) (X : ℕ → S) (F : ℕ → Option S) : Type 0 where
  pub closed : IsClosed M X F
  pub least : (Y : ℕ → S) → HasAllPuts M Y F → (v : ℕ) → IsAtOrBelow M.join (X v) (Y v)

-- the states of two variables, of which the first is frozen
abbrev pub two_states : List (FinalState ℕ)
two_states = record { content = 3; frozen = true } ∷ record { content = 5; frozen = false } ∷ []
