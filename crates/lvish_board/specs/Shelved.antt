-- Lists under keys, and which list a parked task is on.
use Rattle.std.specs.Prelude.{◌≡◌, ℕ, Bool, List, [], Option, Some, None, slice_get}
use Rattle.smallvec.specs.SmallVec.{SmallVec}
use Rattle.std.specs.HashMap.{HashMap, get}
use Rattle.lvish_board.specs.Vocabulary.{Request, Get, Freeze}
use Rattle.lvish_calculus.specs.Handing.{IsAmong}

-- what lies in a list: nothing where there is none
abbrev pub list_items : {T : Type 0} → Option (SmallVec T) → List T
list_items None = []
list_items (Some v) = v.items

-- what lies under the key
abbrev pub shelf : {K T H : Type 0} → (K → K → Bool) → HashMap K (SmallVec T) H → K → List T
shelf eq lists k = list_items (get eq lists k)

-- what lies at the variable
abbrev pub list_at : {T : Type 0} → List (SmallVec T) → ℕ → List T
list_at lists v = list_items (slice_get lists v)

-- what lies under the key in a table: nothing where there is none
abbrev pub shelf_of : {K T H : Type 0} → (K → K → Bool) → Option (HashMap K (SmallVec T) H) → K → List T
shelf_of eq None k = []
shelf_of eq (Some lists) k = shelf eq lists k

-- what lies at the variable under the key
abbrev pub shelf_at : {K T H : Type 0} → (K → K → Bool) → List (HashMap K (SmallVec T) H) → ℕ → K → List T
shelf_at eq tables v k = shelf_of eq (slice_get tables v) k

-- what lies where a get of the variable waits, at a spot or at none
abbrev pub get_list : {W T H : Type 0} → (W → W → Bool) → List (SmallVec T) → List (HashMap W (SmallVec T) H) → ℕ → Option W → List T
get_list eq whole spots v None = list_at whole v
get_list eq whole spots v (Some w) = shelf_at eq spots v w

-- the index is on the list of what the request waits for: a get's by its variable, and its spot if it has one, a freeze's by its variable
abbrev pub IsOnItsList : {S R L W H : Type 0} → (W → W → Bool) → (R → Option W) → List (SmallVec ℕ) → List (HashMap W (SmallVec ℕ) H) → List (SmallVec ℕ) → Request S R L → ℕ → Type 0
IsOnItsList eq watched whole spots freezes (Get v r) t = IsAmong t (get_list eq whole spots v (watched r))
IsOnItsList eq watched whole spots freezes (Freeze v pools) t = IsAmong t (list_at freezes v)
IsOnItsList eq watched whole spots freezes _ t = ⊥

-- the request is a get of the variable that waits at this spot, or at none
abbrev pub WaitsAt : {S R L W : Type 0} → (R → Option W) → ℕ → Option W → Request S R L → Type 0
WaitsAt watched v spot (Get w r) = (w ≡ v) × (watched r ≡ spot)
WaitsAt watched v spot _ = ⊥
