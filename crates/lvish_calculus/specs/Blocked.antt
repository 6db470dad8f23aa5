-- What can wake a blocked task.
use Rattle.std.specs.Prelude.{◌≡◌, ◌⊎◌, ℕ, List, Some, length}
use Rattle.lvish_calculus.specs.Machine.{Machine, Request, Get, Freeze}
use Rattle.lvish_calculus.specs.Calculus.{Live, Ended, State, Label, Act, Change, Changes, IsLive, IsOn, IsEnabled, IsReady, IsReadyTask, changed, effect}
use Rattle.lvish_names.specs.Names.{Name, Handler, handler_of}
use Rattle.lvish_calculus.specs.Handing.{IsAmong, NoRepeats}
use Rattle.lvish_calculus.specs.Laws.{Reaches}
use Rattle.lvish_calculus.specs.Live.{HasLive}

-- what can wake a blocked task: for a get, a put into its variable; for a freeze, an event that is handed to a handler on its variable, or the end of such a handler's task
pub data CanWake {S E R A L : Type 0} (M : Machine S E R A L) (c : State S E L) (ch : Change S E L) : Request S R L → Type 0 where
  by_put : (v : ℕ) (r : R) (d : S) → ch.joined ≡ Some (v, d) → CanWake M c ch (Get v r)
  by_handing : (v : ℕ) (pools : List ℕ) (h : Handler E) (e : E) → ch.handing ≡ Some (h, e) → IsOn M c h v → CanWake M c ch (Freeze v pools)
  by_end : (v : ℕ) (pools : List ℕ) (t : Name E) (h : Handler E) → ch.own ≡ Some (t, Ended) → handler_of t ≡ Some h → IsOn M c h v → CanWake M c ch (Freeze v pools)

module _ {S E R A L : Type 0} (M : Machine S E R A L) where
  -- a live task stays as it is at every step but its own; where its request is ready after such a step, it was ready before, or the step can wake the task
  abbrev pub IsWokenByItsVariable : Type 0
  IsWokenByItsVariable = (ls : List (Label E)) (c : State S E L) (l : Label E) (ch : Change S E L) → Reaches M ls c → IsEnabled M c l → effect M c l ≡ Changes ch
      → (t : Name E) (at : L) (f a p : ℕ) → c.tasks t ≡ Live at f a p → (l ≡ Act t → ⊥)
      → ((changed M ch c).tasks t ≡ Live at f a p) × (IsReady M (changed M ch c) (M.request at) → IsReady M c (M.request at) ⊎ CanWake M c ch (M.request at))

  -- n live tasks are blocked: n is the length of a list of names, without repeats, of live tasks whose requests aren't ready
  pub record HasBlocked (c : State S E L) (n : ℕ) : Type 0 where
    pub names : List (Name E)
    pub once : NoRepeats names
    pub live : (t : Name E) → IsAmong t names → IsLive (c.tasks t)
    pub wait : (t : Name E) → IsAmong t names → IsReadyTask M c (c.tasks t) → ⊥
    pub count : length names ≡ n

  -- if every live task is blocked, no task's request is ready
  abbrev pub AllAreBlocked : Type 0
  AllAreBlocked = (c : State S E L) (n : ℕ) → HasLive c n → HasBlocked c n → (t : Name E) → IsReadyTask M c (c.tasks t) → ⊥
