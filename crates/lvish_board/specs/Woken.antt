-- Which parked tasks a step wakes.
use Rattle.std.specs.Prelude.{◌≡◌, ◌⊎◌, ◌↔◌, List, Option, None, Some}
use Rattle.lvish_board.specs.Vocabulary.{Request, Get, Freeze, Entry, Touched, PutOn as Put, Handed, EndedIn as Ended}
use Rattle.lvish_calculus.specs.Handing.{IsAmong}
use Rattle.lvish_core.specs.Spots.{HasSpot}
use Rattle.lvish_board.specs.Stand.{TaskStand}

-- a read that waits at a spot can be woken by an event of this spot, and one that waits at none by any
abbrev pub MayAnswer : {E W : Type 0} → (E → W) → Option W → List (Entry E) → Type 0
MayAnswer spot_of None fresh = Unit {0}
MayAnswer spot_of (Some w) fresh = HasSpot spot_of w fresh

-- what a step concerned, with the entries that it brought to the log, can wake the request's task: a put can wake the gets from its variable that wait at a spot of an entry, or at none; a handing, or the end of a task in one of a variable's pools, the freezes of that variable
abbrev pub MayWake : {S E R L W : Type 0} → (E → W) → (R → Option W) → Option Touched → List (Entry E) → Request S R L → Type 0
MayWake spot_of watched (Some (Put v)) fresh (Get w r) = (w ≡ v) × MayAnswer spot_of (watched r) fresh
MayWake spot_of watched (Some (Handed v)) fresh (Freeze w pools) = w ≡ v
MayWake spot_of watched (Some (Ended v)) fresh (Freeze w pools) = w ≡ v
MayWake spot_of watched touched fresh r = ⊥

-- a request at which a task can be blocked
abbrev pub CanBlock : {S R L : Type 0} → Request S R L → Type 0
CanBlock (Get v r) = Unit {0}
CanBlock (Freeze v pools) = Unit {0}
CanBlock _ = ⊥

-- those that were parked, and this one in place of any at its task
pub record IsParkedBeside {E L : Type 0} (old : List (TaskStand E L)) (p : TaskStand E L) (new : List (TaskStand E L)) : Type 0 where
  pub each : (q : TaskStand E L) → IsAmong q new ↔ ((q ≡ p) ⊎ (IsAmong q old × (q.task ≡ p.task → ⊥)))

-- the woken tasks can go on, and are parked no longer; the others stay, and none of them that may have been woken can go on
pub record IsWoken {E L : Type 0} (Can : TaskStand E L → Type 0) (May : TaskStand E L → Type 0) (old new woken : List (TaskStand E L)) : Type 0 where
  pub were : (p : TaskStand E L) → IsAmong p woken → IsAmong p old × Can p
  pub stay : (p : TaskStand E L) → IsAmong p new → IsAmong p old × (IsAmong p woken → ⊥)
  pub split : (p : TaskStand E L) → IsAmong p old → IsAmong p woken ⊎ IsAmong p new
  pub left : (p : TaskStand E L) → IsAmong p new → May p → Can p → ⊥
