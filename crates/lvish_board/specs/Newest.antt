-- Where tasks stand, as their board knows it by the stamps that it gave them.
use Rattle.std.specs.Prelude.{◌≡◌, ◌⊎◌, ℕ, List, Option, None, Some, map, option_and_then, slice_get}
use Rattle.lvish_history.specs.Stamped.{Stamped}
use Rattle.lvish_calculus.specs.Machine.{Machine}
use Rattle.lvish_core.specs.Core.{CoreView}
use Rattle.lvish_core.specs.Tasks.{IsAt}
use Rattle.lvish_board.specs.Stand.{TaskStand}
use Rattle.lvish_board.specs.Board.{IsCurrent}

-- what these stamps were given for
abbrev pub values_of : {V : Type 0} → List (Stamped V) → List (Option V)
values_of stamps = map (λ s. s.value) stamps

-- the value at the index, if one is known
abbrev pub known_at : {V : Type 0} → List (Option V) → ℕ → Option V
known_at values i = option_and_then (λ o. o) (slice_get values i)

-- at the index nothing is known but this, and elsewhere nothing more than before
abbrev pub IsSetAt : {V : Type 0} → ℕ → Option V → List (Option V) → List (Option V) → Type 0
IsSetAt {V} i o old new = (j : ℕ) (v : V) → known_at new j ≡ Some v → ((j ≡ i) × (o ≡ Some v)) ⊎ ((j ≡ i → ⊥) × (known_at old j ≡ Some v))

-- if there is one for the index, it alone is known there; elsewhere nothing more than before
abbrev pub IsSetIf : {V : Type 0} → ℕ → Option V → List (Option V) → List (Option V) → Type 0
IsSetIf i None old new = new ≡ old
IsSetIf i (Some v) old new = IsSetAt i (Some v) old new

-- each task of which a place is known stands there
abbrev pub AreKnown : {P S E R A L : Type 0} → Machine S E R A L → CoreView P S E L → List (Option (TaskStand E L)) → Type 0
AreKnown {E = E} {L = L} M c places = (i : ℕ) (p : TaskStand E L) → known_at places i ≡ Some p → IsAt c.table.tasks i p.task × IsCurrent M c p
