-- What can wake a blocked task, by what the last step concerned.
use Rattle.std.specs.Prelude.{◌≡◌, ◌⊎◌, ◌↔◌, ℕ, List, Option, Some, None}
use Rattle.lvish_core.specs.Vocabulary.{Label, Act, Request, Get, Freeze, Stepped, Touched, PutOn as Put, Handed, EndedIn}
use Rattle.lvish_calculus.specs.Machine.{Machine}
use Rattle.lvish_calculus.specs.Calculus.{Live, IsReady, IsEnded}
use Rattle.lvish_names.specs.Names.{Name}
use Rattle.lvish_calculus.specs.Blocked.{HasBlocked}
use Rattle.lvish_core.specs.Changes.{local_of}
use Rattle.lvish_core.specs.Core.{CoreView, state, picture, IsRunTo, IsStep, CanTake}
use Rattle.lvish_core.specs.Reads.{HasRunning, AreDrained}

-- whether a step can wake the request's task, by what it concerned: a put can wake the gets from its variable; a handing, or the end of a task in one of a variable's pools, the freezes of that variable
abbrev pub MayBeWoken : {S R L : Type 0} → Request S R L → Option Touched → Type 0
MayBeWoken (Get v r) (Some (Put w)) = v ≡ w
MayBeWoken (Freeze v pools) (Some (Handed w)) = v ≡ w
MayBeWoken (Freeze v pools) (Some (EndedIn w)) = v ≡ w
MayBeWoken _ _ = ⊥

-- a live task stays as it is at every step but its own; where its request is ready after such a step, it was ready before, or what the step concerned can wake the task
abbrev pub IsBlockedUntilTouched : {S E R A L : Type 0} → Type 0 → Machine S E R A L → Type 0
IsBlockedUntilTouched {S} {E} {R} {A} {L} P M = (c d : CoreView P S E L) (xs : List (Label E)) (l : Label E) (said : Stepped) → IsRunTo M c xs → IsStep M c l d said → d.fault ≡ None
    → (t : Name E) (at : L) (f a p : ℕ) → (state M c).tasks t ≡ Live at f a p → (l ≡ Act t → ⊥)
    → ((state M d).tasks t ≡ Live at f a p) × (IsReady M (state M d) (M.request at) → IsReady M (state M c) (M.request at) ⊎ MayBeWoken (M.request at) d.touched)

-- if every running task is blocked, a core is at an end exactly where every cursor is at its log's end
abbrev pub EndsByCounts : {S E R A L : Type 0} → Type 0 → Machine S E R A L → Type 0
EndsByCounts {S} {E} {R} {A} {L} P M = (c : CoreView P S E L) (xs : List (Label E)) (n : ℕ) → IsRunTo M c xs → c.fault ≡ None → HasRunning M c n → HasBlocked M (state M c) n
    → IsEnded M (picture M c) ↔ AreDrained c.table

-- no task can freeze the variable
abbrev pub NoneFreezes : {P S E R A L : Type 0} → Machine S E R A L → CoreView P S E L → ℕ → Type 0
NoneFreezes {E = E} {L = L} M c v = (t : Name E) (at : L) (pools : List ℕ) → local_of ((state M c).tasks t) ≡ Some at → M.request at ≡ Freeze v pools → CanTake M c (Act t) → ⊥
