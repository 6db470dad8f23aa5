-- What a board stands for.
use Rattle.std.specs.Prelude.{◌≡◌, ◌≤◌, ℕ, List, [], map, length, Option, None, Some}
use Rattle.lvish_board.specs.Vocabulary.{MOST_PROGRAM_STEPS, Label, Act, TraceEntry, Outcome, EndedOver as Ended, ErrorOver as Error, Budget}
use Rattle.lvish_calculus.specs.Machine.{Machine}
use Rattle.lvish_calculus.specs.Calculus.{IsEnded, IsLive}
use Rattle.lvish_names.specs.Names.{Name}
use Rattle.lvish_calculus.specs.Handing.{IsAmong, NoRepeats}
use Rattle.lvish_core.specs.Core.{CoreView, IsRunTo, IsBegun, CanTake, picture, state}
use Rattle.lvish_core.specs.Changes.{local_of}
use Rattle.lvish_core.specs.Reads.{HasRunning, AreDrained}
use Rattle.lvish_trace.specs.Traced.{labels_of}
use Rattle.lvish_board.specs.Stand.{TaskStand}

-- what contracts see of a board: the trace of its steps, its core, how it is over, and the tasks that are parked
pub record Standing (P S E L : Type 0) : Type 0 where
  pub trace : List (TraceEntry E)
  pub core : CoreView P S E L
  pub over : Option (Outcome E)
  pub parked : List (TaskStand E L)

-- the tasks of places
abbrev pub tasks_of : {E L : Type 0} → List (TaskStand E L) → List (Name E)
tasks_of places = map (λ p. p.task) places

-- the task is at this local state
abbrev pub IsCurrent : {P S E R A L : Type 0} → Machine S E R A L → CoreView P S E L → TaskStand E L → Type 0
IsCurrent M c p = local_of ((state M c).tasks p.task) ≡ Some p.from

-- the task is at this local state, and is blocked there
pub record IsBlocked {P S E R A L : Type 0} (M : Machine S E R A L) (c : CoreView P S E L) (p : TaskStand E L) : Type 0 where
  pub current : IsCurrent M c p
  pub blocked : CanTake M c (Act p.task) → ⊥

-- how a board is over, if it is: at an end; with the error of its last step; or with as many steps as its budget where one more could be made
abbrev pub OverIs : {P S E R A L : Type 0} → Machine S E R A L → ℕ → Standing P S E L → Option (Outcome E) → Type 0
OverIs M budget s None = s.core.fault ≡ None
OverIs M budget s (Some Ended) = IsEnded M (picture M s.core)
OverIs M budget s (Some (Error kind v t)) = s.core.fault ≡ Some (record { kind = kind; variable = v; task = t })
OverIs {E = E} M budget s (Some Budget) = (length s.trace ≡ budget) × ((l : Label E) × CanTake M s.core l)

-- every task that hasn't ended is parked
abbrev pub AreAllParked : {P S E R A L : Type 0} → Machine S E R A L → Standing P S E L → Type 0
AreAllParked {E = E} M s = (t : Name E) → IsLive ((state M s.core).tasks t) → IsAmong t (tasks_of s.parked)

-- a board with this core and so many parked tasks is over at an end just where as many tasks haven't ended and every handler is drained
abbrev pub TellsEnd : {P S E R A L : Type 0} → Machine S E R A L → CoreView P S E L → ℕ → Option (Outcome E) → Type 0
TellsEnd M c parked None = HasRunning M c parked → AreDrained c.table → ⊥
TellsEnd M c parked (Some Ended) = HasRunning M c parked × AreDrained c.table
TellsEnd M c parked (Some _) = ⊥

-- what every board keeps: its trace is a run of the program, no longer than the budget, in which handlers are handed events in the order of their introduction; its core is where this run leads;
-- it is over where every task that hasn't ended is parked and every handler is drained; the parked tasks are blocked, and none is parked twice
pub record IsBoardSound {P S E R A L : Type 0} (M : Machine S E R A L) (program : P) (budget : ℕ) (s : Standing P S E L) : Type 0 where
  pub program_is : s.core.program ≡ program
  pub leads : IsRunTo M s.core (labels_of s.trace)
  pub counted : s.core.steps ≡ length s.trace
  pub within : length s.trace ≤ budget
  pub bounded : budget ≤ MOST_PROGRAM_STEPS
  pub over_is : OverIs M budget s s.over
  pub not_at_end : s.over ≡ None → AreAllParked M s → AreDrained s.core.table → ⊥
  pub blocked : (p : TaskStand E L) → IsAmong p s.parked → IsBlocked M s.core p
  pub once : NoRepeats (tasks_of s.parked)

-- a board before any step
pub record IsOpened {P S E R A L : Type 0} (M : Machine S E R A L) (program : P) (s : Standing P S E L) : Type 0 where
  pub trace : s.trace ≡ []
  pub core : IsBegun M program s.core
  pub over : s.over ≡ None
  pub parked : s.parked ≡ []
