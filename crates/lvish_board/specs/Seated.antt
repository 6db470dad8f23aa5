-- The parked tasks, each with its index.
use Rattle.std.specs.Prelude.{◌≡◌, ℕ, List, Some, map, slice_get}
use Rattle.lvish_names.specs.Names.{Name}
use Rattle.lvish_calculus.specs.Calculus.{Task}
use Rattle.lvish_calculus.specs.Handing.{IsAmong}
use Rattle.lvish_core.specs.Tasks.{IsAt}
use Rattle.lvish_board.specs.Stand.{TaskStand}

-- the indices of entries
abbrev pub indices_of : {V : Type 0} → List (ℕ × V) → List ℕ
indices_of entries = map (λ e. e.0) entries

-- what stands at them
abbrev pub stands_of : {V : Type 0} → List (ℕ × V) → List V
stands_of entries = map (λ e. e.1) entries

-- where an entry stands in the list is noted at its index
abbrev pub AreSeated : {V : Type 0} → List ℕ → List (ℕ × V) → Type 0
AreSeated {V} seats entries = (k : ℕ) (e : ℕ × V) → slice_get entries k ≡ Some e → slice_get seats e.0 ≡ Some k

-- each entry of the one list is among the other
abbrev pub AreWithin : {V : Type 0} → List (ℕ × V) → List (ℕ × V) → Type 0
AreWithin {V} entries others = (e : ℕ × V) → IsAmong e entries → IsAmong e others

-- one of the indices is this place's
abbrev pub HasIndexAmong : {V : Type 0} → List ℕ → List (ℕ × V) → V → Type 0
HasIndexAmong indices entries v = (i : ℕ) × IsAmong i indices × IsAmong (i, v) entries

-- each parked task has its index
abbrev pub AreIndexed : {E L : Type 0} → List (Name E × Task L) → List (ℕ × TaskStand E L) → Type 0
AreIndexed {E = E} {L = L} tasks entries = (e : ℕ × TaskStand E L) → IsAmong e entries → IsAt tasks e.0 e.1.task
