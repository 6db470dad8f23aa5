-- The tasks that may go on and the handlers that may have something left, beside a board.
use Rattle.std.specs.Prelude.{◌≡◌, ◌⊎◌, ◌+◌, ℕ, Bool, true, false, cond, length, List, [], ◌∷◌, Option, Some, None, IsSome}
use Rattle.std.specs.declared.cmp.Ordering.{Ordering}
use Rattle.std.specs.declared.cmp.Ordering.TheVariants.{Less}
use Rattle.std.specs.Ordering.{is_eq, is_gt}
use Rattle.std.specs.List.{list_any}
use Rattle.std.specs.Map.{lookup}
use Rattle.std.specs.BTreeMap.{is_at}
use Rattle.lvish_names.specs.NameOrder.{name_cmp, handler_cmp}
use Rattle.lvish_calculus.specs.Machine.{Machine}
use Rattle.lvish_names.specs.Names.{Name, Handler}
use Rattle.lvish_calculus.specs.Handing.{IsAmong}
use Rattle.lvish_core.specs.Core.{state}
use Rattle.lvish_core.specs.Changes.{local_of}
use Rattle.lvish_board.specs.declared.work.Work.{Work}
use Rattle.lvish_board.specs.declared.work.Work.TheVariants.{Stretch, Act as ActOn, Hand as HandTo}
use Rattle.lvish_board.specs.Stand.{TaskStand}
use Rattle.lvish_board.specs.Board.{Standing, tasks_of, IsCurrent}
use Rattle.lvish_board.specs.Listed.{HasNext}

-- what contracts see of an agenda: the open tasks under their names, and the open handlers
pub record Agenda (E L : Type 0) : Type 0 where
  pub tasks : List (Name E × TaskStand E L)
  pub handlers : List (Handler E)

-- where each open task stands, whether a handler is open, and how many tasks and handlers are
pub record Open (E L : Type 0) : Type 0 where
  pub at : Name E → Option (TaskStand E L)
  pub has : Handler E → Bool
  pub tasks : ℕ
  pub handlers : ℕ

-- what is open in an agenda
abbrev pub open_in : {E L : Type 0} → (E → E → Ordering) → Agenda E L → Open E L
open_in cmp a = record {
  at = λ t. lookup (is_at (name_cmp cmp t)) a.tasks;
  has = λ h. list_any (is_at (handler_cmp cmp h)) a.handlers;
  tasks = length a.tasks;
  handlers = length a.handlers;
}

-- the same but at this task's name, where x is
abbrev pub PutsAt : {E L : Type 0} → (E → E → Ordering) → List (Name E × TaskStand E L) → Name E → Option (TaskStand E L) → List (Name E × TaskStand E L) → Type 0
PutsAt {E} cmp old t x new = (u : Name E) → lookup (is_at (name_cmp cmp u)) new ≡ cond (is_eq (name_cmp cmp t u)) x (lookup (is_at (name_cmp cmp u)) old)

-- the name is below that of each of these tasks
abbrev pub IsBelow : {E L : Type 0} → (E → E → Ordering) → Name E → List (Name E × TaskStand E L) → Type 0
IsBelow {E} cmp t es = (u : Name E) → IsSome (lookup (is_at (name_cmp cmp u)) es) → name_cmp cmp t u ≡ Less

-- a task that stands before the others, under its name
abbrev pub entry_of : {E L : Type 0} → Option (TaskStand E L) → List (Name E × TaskStand E L)
entry_of None = []
entry_of (Some p) = (p.task, p) ∷ []

-- a task that stands before the others is below them
abbrev pub IsFirstOf : {E L : Type 0} → (E → E → Ordering) → Option (TaskStand E L) → List (Name E × TaskStand E L) → Type 0
IsFirstOf cmp None es = Unit {0}
IsFirstOf cmp (Some p) es = IsBelow cmp p.task es

-- nothing is open
pub record IsEmpty {E L : Type 0} (a : Open E L) : Type 0 where
  pub at : (t : Name E) → a.at t ≡ None
  pub has : (h : Handler E) → a.has h ≡ false

-- the same, with this at the task
pub record SetsOpenTask {E L : Type 0} (cmp : E → E → Ordering) (old : Open E L) (t : Name E) (p : Option (TaskStand E L)) (new : Open E L) : Type 0 where
  pub at : (u : Name E) → new.at u ≡ cond (is_eq (name_cmp cmp t u)) p (old.at u)
  pub has : new.has ≡ old.has

-- the same, with this handler open or not
pub record HasHandler {E L : Type 0} (cmp : E → E → Ordering) (old : Open E L) (h : Handler E) (b : Bool) (new : Open E L) : Type 0 where
  pub has : (k : Handler E) → new.has k ≡ cond (is_eq (handler_cmp cmp h k)) b (old.has k)
  pub at : new.at ≡ old.at

-- no task is open
abbrev pub NoTask : {E L : Type 0} → Open E L → Type 0
NoTask {E} a = (t : Name E) → a.at t ≡ None

-- no handler is open
abbrev pub NoHandler : {E L : Type 0} → Open E L → Type 0
NoHandler {E} a = (h : Handler E) → a.has h ≡ false

-- the first open task left the agenda
pub record IsTaskGone {E L : Type 0} (cmp : E → E → Ordering) (old : Open E L) (p : TaskStand E L) (new : Open E L) : Type 0 where
  pub task : Name E
  pub was : old.at task ≡ Some p
  pub first : (u : Name E) → IsSome (old.at u) → is_gt (name_cmp cmp task u) ≡ false
  pub without : SetsOpenTask cmp old task None new
  pub fewer : new.tasks + 1 ≡ old.tasks

-- the first open handler left the agenda
pub record IsHandlerGone {E L : Type 0} (cmp : E → E → Ordering) (old : Open E L) (h : Handler E) (new : Open E L) : Type 0 where
  pub first : (k : Handler E) → old.has k ≡ true → is_gt (handler_cmp cmp h k) ≡ false
  pub without : HasHandler cmp old h false new
  pub fewer : new.handlers + 1 ≡ old.handlers

-- these tasks and handlers were opened
pub record Opens {E L : Type 0} (ps : List (TaskStand E L)) (hs : List (Handler E)) (old new : Open E L) : Type 0 where
  pub from : (t : Name E) (p : TaskStand E L) → new.at t ≡ Some p → (old.at t ≡ Some p) ⊎ ((p.task ≡ t) × IsAmong p ps)
  pub kept : (t : Name E) → new.at t ≡ None → (old.at t ≡ None) × ((p : TaskStand E L) → IsAmong p ps → p.task ≡ t → ⊥)
  pub hands : (h : Handler E) → new.has h ≡ false → (old.has h ≡ false) × (IsAmong h hs → ⊥)

-- the work is the task's
abbrev pub IsTaskOf : {P B S L R A W E : Type 0} → List (Work P B S L R A W E) → TaskStand E L → Type 0
IsTaskOf ws p = IsAmong (Stretch p) ws ⊎ IsAmong (ActOn p) ws

-- the work was added
pub record Adds {P B S L R A W E : Type 0} (ws : List (Work P B S L R A W E)) (old new : Open E L) : Type 0 where
  pub from : (t : Name E) (p : TaskStand E L) → new.at t ≡ Some p → (old.at t ≡ Some p) ⊎ ((p.task ≡ t) × IsTaskOf ws p)
  pub kept : (t : Name E) → new.at t ≡ None → (old.at t ≡ None) × ((p : TaskStand E L) → IsTaskOf ws p → p.task ≡ t → ⊥)
  pub hands : (h : Handler E) → new.has h ≡ false → (old.has h ≡ false) × (IsAmong (HandTo h) ws → ⊥)

-- each open task stands where the agenda has it; each task that hasn't ended is open or parked, and each handler for which something comes next is open, except for the task and the handler whose turn it is
pub record IsBeside {P S E R A L : Type 0} (M : Machine S E R A L) (s : Standing P S E L) (task : Option (Name E)) (handler : Option (Handler E)) (a : Open E L) : Type 0 where
  pub current : (t : Name E) (p : TaskStand E L) → a.at t ≡ Some p → (p.task ≡ t) × IsCurrent M s.core p × (task ≡ Some t → ⊥)
  pub tasks : (t : Name E) (l : L) → local_of ((state M s.core).tasks t) ≡ Some l → a.at t ≡ None → (IsAmong t (tasks_of s.parked) → ⊥) → task ≡ Some t
  pub hands : (h : Handler E) → HasNext M s.core h → a.has h ≡ false → handler ≡ Some h

-- the agenda has all that may be done, unless the board is over
abbrev pub IsFor : {P S E R A L : Type 0} → (E → E → Ordering) → Machine S E R A L → Standing P S E L → Agenda E L → Type 0
IsFor cmp M s a = s.over ≡ None → IsBeside M s None None (open_in cmp a)
