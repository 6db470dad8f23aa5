-- What comes of acts.
use Rattle.std.specs.Prelude.{◌≡◌, ◌⊎◌, ◌↔◌, ◌++◌, ◌∷◌, ℕ, Bool, [], true, false, Option, None, IsSome}
use Rattle.std.specs.declared.cmp.Ordering.{Ordering}
use Rattle.lvish_board.specs.Vocabulary.{Label, Act, Hand, TraceEntry, Outcome, Work, StepWork, ActOn, HandTo, ActAnswer, Over, Stale, Parked, Memory, Next, Gone, ActKind, OverKind, StaleKind, ParkedKind, MemoryKind, NextKind, GoneKind}
use Rattle.lvish_calculus.specs.Machine.{Machine}
use Rattle.lvish_names.specs.Names.{Name, Handler}
use Rattle.lvish_core.specs.Core.{CoreView, state}
use Rattle.lvish_core.specs.Changes.{local_of}
use Rattle.lvish_core.specs.Tasks.{task_names}
use Rattle.lvish_trace.specs.Packed.{label_at}
use Rattle.lvish_board.specs.Stand.{TaskStand}
use Rattle.lvish_board.specs.Board.{Standing}
use Rattle.lvish_board.specs.Woken.{IsParkedBeside}
use Rattle.lvish_board.specs.Listed.{IsListed, work_of}

-- a step was made
abbrev pub is_step : {P B S L R A W E : Type 0} → ActAnswer P B S L R A W E → Bool
is_step (Next ws) = true
is_step (Gone ws) = true
is_step _ = false

-- a step was made by which the task has ended or met an error
abbrev pub is_gone : {P B S L R A W E : Type 0} → ActAnswer P B S L R A W E → Bool
is_gone (Gone ws) = true
is_gone _ = false

-- the board is over
abbrev pub is_over : {P B S L R A W E : Type 0} → ActAnswer P B S L R A W E → Bool
is_over Over = true
is_over _ = false

-- the task isn't there at this state, or there is no such handler
abbrev pub is_stale : {P B S L R A W E : Type 0} → ActAnswer P B S L R A W E → Bool
is_stale Stale = true
is_stale _ = false

-- the task is blocked, or nothing comes next for the handler
abbrev pub is_parked : {P B S L R A W E : Type 0} → ActAnswer P B S L R A W E → Bool
is_parked Parked = true
is_parked _ = false

-- memory was refused
abbrev pub is_memory : {P B S L R A W E : Type 0} → ActAnswer P B S L R A W E → Bool
is_memory (Memory w) = true
is_memory _ = false

-- which answer comes, the first of these: the board was over; the task isn't there at this state, or there is no such handler; its step can't be made; the budget is used up, by which the board is over too;
-- memory was refused, to a step or to the parking of a task whose step can't be made; a step was made
abbrev pub ComesInOrder : {P B S L R A W E : Type 0} → (Stands Can Full : Type 0) → Option (Outcome E) → ActAnswer P B S L R A W E → Type 0
ComesInOrder Stands Can Full over Over = IsSome over ⊎ (Stands × Can × Full)
ComesInOrder Stands Can Full over Stale = (over ≡ None) × (Stands → ⊥)
ComesInOrder Stands Can Full over Parked = (over ≡ None) × Stands × (Can → ⊥)
ComesInOrder Stands Can Full over (Memory w) = (over ≡ None) × Stands × (Can → Full → ⊥)
ComesInOrder Stands Can Full over (Next ws) = (over ≡ None) × Stands × Can × (Full → ⊥)
ComesInOrder Stands Can Full over (Gone ws) = (over ≡ None) × Stands × Can × (Full → ⊥)

-- what came of this work, with it where memory was refused, and with the work that a step left
abbrev pub with_work : {P B S L R A W E : Type 0} → ActKind → Work P B S L R A W E → StepWork P B S L R A W E → ActAnswer P B S L R A W E
with_work OverKind w left = Over
with_work StaleKind w left = Stale
with_work ParkedKind w left = Parked
with_work MemoryKind w left = Memory w
with_work NextKind w left = Next left
with_work GoneKind w left = Gone left

-- the work for which memory was refused is this
abbrev pub GivesBack : {P B S L R A W E : Type 0} → Work P B S L R A W E → ActAnswer P B S L R A W E → Type 0
GivesBack w (Memory v) = v ≡ w
GivesBack w _ = Unit {0}

-- where memory was refused, nothing has changed
abbrev pub KeepsAtMemory : {P B S L R A W E X : Type 0} → X → X → ActAnswer P B S L R A W E → Type 0
KeepsAtMemory old new (Memory v) = new ≡ old
KeepsAtMemory old new _ = Unit {0}

-- an entry of a trace
abbrev pub entry_of : {E : Type 0} → ℕ → Label E → TraceEntry E
entry_of worker label = record { worker = worker; label = label }

-- the task goes on no more: it has ended, or there is an error
abbrev pub IsDone : {P S E R A L : Type 0} → Machine S E R A L → CoreView P S E L → Name E → Type 0
IsDone M c t = (local_of ((state M c).tasks t) ≡ None) ⊎ IsSome c.fault

-- after a step with the label the work is just what is listed
abbrev pub ListsWork : {P' P B S L R A W E Ans : Type 0} → (E → E → Ordering) → Machine S E R Ans L → Standing P' S E L → Label E → Standing P' S E L → ActAnswer P B S L R A W E → Type 0
ListsWork cmp M old l new (Next ws) = IsListed cmp M old l new (work_of ws)
ListsWork cmp M old l new (Gone ws) = IsListed cmp M old l new (work_of ws)
ListsWork cmp M old l new _ = Unit {0}

-- the step that the work names is in the trace the step with this label
abbrev pub NotesStep : {P' P B S L R A W E : Type 0} → Label E → Standing P' S E L → ActAnswer P B S L R A W E → Type 0
NotesStep l new (Next ws) = label_at (task_names new.core.table.tasks) ws.step ≡ l
NotesStep l new (Gone ws) = label_at (task_names new.core.table.tasks) ws.step ≡ l
NotesStep l new _ = Unit {0}

-- the acting task's next ticket is there just where the task goes on
abbrev pub HasOwn : {P B S L R A W E : Type 0} → ActAnswer P B S L R A W E → Type 0
HasOwn (Next ws) = IsSome ws.own
HasOwn (Gone ws) = ws.own ≡ None
HasOwn _ = Unit {0}

-- no task has acted
abbrev pub HasNoOwn : {P B S L R A W E : Type 0} → ActAnswer P B S L R A W E → Type 0
HasNoOwn (Next ws) = ws.own ≡ None
HasNoOwn _ = Unit {0}

-- all that `act` says of its answer, clause by clause, in one: Stands says that the task is at its state, Can that its step can be made, Full that the budget is used up
pub record ComesOfAct {P' P B S L R A W E Ans : Type 0} (cmp : E → E → Ordering) (M : Machine S E R Ans L) (Stands Can Full : Type 0) (worker : ℕ) (asked : TaskStand E L) (old new : Standing P' S E L) (result : ActAnswer P B S L R A W E) : Type 0 where
  pub order : ComesInOrder Stands Can Full old.over result
  pub stays : is_step result ≡ false → (new.trace ≡ old.trace) × (new.core ≡ old.core)
  pub step : is_step result ≡ true → new.trace ≡ old.trace ++ entry_of worker (Act asked.task) ∷ []
  pub gone : is_step result ≡ true → (is_gone result ≡ true) ↔ IsDone M new.core asked.task
  pub list : ListsWork cmp M old (Act asked.task) new result
  pub noted : NotesStep (Act asked.task) new result
  pub own : HasOwn result
  pub over : is_over result ≡ true → IsSome new.over
  pub keeps : is_over result ≡ true → new.parked ≡ old.parked
  pub done : IsSome old.over → (result ≡ Over) × (new ≡ old)
  pub stale : is_stale result ≡ true → new ≡ old
  pub parked : is_parked result ≡ true → IsParkedBeside old.parked asked new.parked
  pub memory : GivesBack (ActOn asked) result × KeepsAtMemory old new result

-- all that `hand` says of its answer, clause by clause, in one: Held says that there is such a handler, Next which event comes next for it, Full that the budget is used up
pub record ComesOfHand {P' P B S L R A W E Ans : Type 0} (cmp : E → E → Ordering) (M : Machine S E R Ans L) (Held : Type 0) (Next : E → Type 0) (Full : Type 0) (worker : ℕ) (handler : Handler E) (old new : Standing P' S E L) (result : ActAnswer P B S L R A W E) : Type 0 where
  pub order : ComesInOrder Held ((e : E) × Next e) Full old.over result
  pub stays : is_step result ≡ false → (new.trace ≡ old.trace) × (new.core ≡ old.core) × (new.parked ≡ old.parked)
  pub step : is_step result ≡ true → (e : E) × Next e × (new.trace ≡ old.trace ++ entry_of worker (Hand handler e) ∷ []) × ListsWork cmp M old (Hand handler e) new result × NotesStep (Hand handler e) new result
  pub gone : is_gone result ≡ false
  pub own : HasNoOwn result
  pub over : is_over result ≡ true → IsSome new.over
  pub done : IsSome old.over → (result ≡ Over) × (new ≡ old)
  pub stale : is_stale result ≡ true → new ≡ old
  pub parked : is_parked result ≡ true → new ≡ old
  pub memory : GivesBack (HandTo handler) result × KeepsAtMemory old new result
  pub refused : is_memory result ≡ true → (e : E) × Next e

-- what comes of an act whose step isn't made, which leaves trace and core: Can says that it can be made, Full that the budget is used up
abbrev pub ComesOfNoAct : {P S E L : Type 0} → (Can Full : Type 0) → TaskStand E L → Standing P S E L → Standing P S E L → ActKind → Type 0
ComesOfNoAct Can Full asked old new OverKind = Can × Full × IsSome new.over × (new.parked ≡ old.parked)
ComesOfNoAct Can Full asked old new ParkedKind = (Can → ⊥) × IsParkedBeside old.parked asked new.parked
ComesOfNoAct Can Full asked old new MemoryKind = (Can → Full → ⊥) × (new ≡ old)
ComesOfNoAct Can Full asked old new _ = ⊥

-- what comes of a handing that isn't made, which leaves trace, core and parked tasks: Held says that there is such a handler, IsNext which event comes next for it, Full that the budget is used up
abbrev pub ComesOfNoHanding : {P S E L : Type 0} → Type 0 → (E → Type 0) → Type 0 → Standing P S E L → Standing P S E L → ActKind → Type 0
ComesOfNoHanding Held IsNext Full old new OverKind = ((e : _) × IsNext e) × Full × IsSome new.over
ComesOfNoHanding Held IsNext Full old new StaleKind = (Held → ⊥) × (new ≡ old)
ComesOfNoHanding Held IsNext Full old new ParkedKind = Held × ((e : _) → IsNext e → ⊥) × (new ≡ old)
ComesOfNoHanding Held IsNext Full old new MemoryKind = ((e : _) × IsNext e) × (Full → ⊥) × (new ≡ old)
ComesOfNoHanding Held IsNext Full old new _ = ⊥
