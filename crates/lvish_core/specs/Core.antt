-- What a core stands for.
use Rattle.std.specs.Prelude.{◌≡◌, ◌≤◌, ◌+◌, ℕ, Bool, List, [], ◌∷◌, ◌++◌, length, Option, Some, None, slice_get}
use Rattle.lvish_core.specs.Vocabulary.{MOST_PROGRAM_STEPS, Label, Act, Hand, ErrorKind, RunError, Stepped, DoneStep, ErrorStep, StepFault, NotEnabled, Full, Memory, Touched, Made}
use Rattle.lvish_calculus.specs.Machine.{Machine}
use Rattle.lvish_calculus.specs.Calculus.{State, Configuration, Running, Error, IsRun, CanStep, effect, next, start}
use Rattle.lvish_names.specs.Names.{Handler}
use Rattle.lvish_calculus.specs.Handing.{HandsOldestFirst}
use Rattle.lvish_variable.specs.Variable.{VariableView as Variable, logged}
use Rattle.lvish_handlers.specs.Handlers.{HandlersView as Handlers, next_of}
use Rattle.lvish_picture.specs.Logs.{IsInOrder}
use Rattle.lvish_picture.specs.Picture.{Table, IsTable, table_picture}
use Rattle.lvish_core.specs.Changes.{brought, moved_in, touched_by}
use Rattle.lvish_calculus.specs.FreezeOrder.{freeze_order}
use Rattle.lvish_core.specs.Puts.{brought_by_run}
use Rattle.lvish_core.specs.Tasks.{IsAt, KeepsIndices}

-- what contracts see of a core: its program, the table of variables, handlers and tasks, the number of steps, the error, what the last step concerned, and the frozen variables in the order in which they were first frozen.
-- After an error the table is the one before it
pub record CoreView (P S E L : Type 0) : Type 0 where
  pub program : P
  pub table : Table S E L
  pub steps : ℕ
  pub fault : Option (RunError E)
  pub touched : Option Touched
  pub freezes : List ℕ

-- the configuration that the table stands for
abbrev pub state : {P S E R A L : Type 0} → Machine S E R A L → CoreView P S E L → State S E L
state M c = table_picture M c.table

abbrev pub at_fault : {S E L : Type 0} → State S E L → Option (RunError E) → Configuration S E L
at_fault s None = Running s
at_fault s (Some f) = Error f.kind f.variable f.task

-- the configuration that a core stands for
abbrev pub picture : {P S E R A L : Type 0} → Machine S E R A L → CoreView P S E L → Configuration S E L
picture M c = at_fault (state M c) c.fault

-- the labels are a core run, which leads from the start to the picture; each log has that run's events in the order of their introduction, and is what the run's puts brought to it, with their tasks and numbers; the variables were first frozen in the run's order of freezes; and `IsTable` holds
pub record IsRunTo {P S E R A L : Type 0} (M : Machine S E R A L) (c : CoreView P S E L) (xs : List (Label E)) : Type 0 where
  pub reached : IsRun M (Running (start M)) xs (picture M c)
  pub core : HandsOldestFirst M xs
  pub logs : (v : ℕ) (x : Variable S E) → slice_get c.table.variables v ≡ Some x → IsInOrder M xs (state M c) v (logged x.log)
  pub brings : (v : ℕ) (x : Variable S E) → slice_get c.table.variables v ≡ Some x → x.log ≡ brought_by_run M (Running (start M)) xs v
  pub freezes : c.freezes ≡ freeze_order M xs
  pub table : IsTable M c.table

-- a core run of as many labels as the core's steps leads to it
pub record IsReached {P S E R A L : Type 0} (M : Machine S E R A L) (c : CoreView P S E L) : Type 0 where
  pub labels : List (Label E)
  pub count : length labels ≡ c.steps
  pub leads : IsRunTo M c labels

-- a core of the program at the start, before any step
pub record IsBegun {P S E R A L : Type 0} (M : Machine S E R A L) (p : P) (c : CoreView P S E L) : Type 0 where
  pub program : c.program ≡ p
  pub steps : c.steps ≡ 0
  pub at_start : picture M c ≡ Running (start M)
  pub leads : IsRunTo M c []
  pub touched : c.touched ≡ None

-- e is the entry of the log of h's variable that comes after those that h was handed
pub record IsNext {S E L : Type 0} (eq : E → E → Bool) (c : Table S E L) (h : Handler E) (e : E) : Type 0 where
  pub variable : ℕ
  pub at : Variable S E
  pub at_is : slice_get c.variables variable ≡ Some at
  pub beside : Handlers E
  pub beside_is : slice_get c.handlers variable ≡ Some beside
  pub next : next_of eq at.log beside.held h ≡ Some e

-- a handing hands the log's next entry
abbrev pub HandsNext : {P S E R A L : Type 0} → Machine S E R A L → CoreView P S E L → Label E → Type 0
HandsNext M c (Act t) = Unit {0}
HandsNext M c (Hand h e) = IsNext M.event_same c.table h e

-- the core makes a step with the label: it is enabled, and hands no event but the log's next
abbrev pub CanTake : {P S E R A L : Type 0} → Machine S E R A L → CoreView P S E L → Label E → Type 0
CanTake M c l = CanStep M (picture M c) l × HandsNext M c l

-- what a step says of the configuration that it led to
abbrev pub says : {S E L : Type 0} → Configuration S E L → Stepped → Type 0
says (Running s) DoneStep = Unit {0}
says (Running s) (ErrorStep kind) = ⊥
says (Error kind v t) DoneStep = ⊥
says (Error kind v t) (ErrorStep other) = kind ≡ other

-- from the one core to the other by one step with the label
pub record IsStep {P S E R A L : Type 0} (M : Machine S E R A L) (old : CoreView P S E L) (l : Label E) (new : CoreView P S E L) (said : Stepped) : Type 0 where
  pub enabled : CanTake M old l
  pub program : new.program ≡ old.program
  pub steps : new.steps ≡ old.steps + 1
  pub small : new.steps ≤ MOST_PROGRAM_STEPS
  pub stepped : picture M new ≡ next M (picture M old) l
  pub answer : says (picture M new) said
  -- each run that led to the old core leads to the new one, with the label added
  pub leads : (xs : List (Label E)) → IsRunTo M old xs → IsRunTo M new (xs ++ l ∷ [])
  -- a put's log grows by the entries that it brings, and the others stay
  pub logs : (v : ℕ) (x y : Variable S E) → slice_get old.table.variables v ≡ Some x → slice_get new.table.variables v ≡ Some y → y.log ≡ x.log ++ brought M (state M old) l v
  pub touched : new.touched ≡ Some (touched_by M (state M old) l)
  -- each task keeps its index, and one that starts stands behind all others
  pub indices : KeepsIndices old.table.tasks new.table.tasks
  pub started : (m : Made E L) → (moved_in (effect M (state M old) l)).made ≡ Some m → IsAt new.table.tasks (length old.table.tasks) m.name
  -- after an error the variables, the handlers and the tasks are as they were before it
  pub shows_before : (kind : ErrorKind) → said ≡ ErrorStep kind → new.table ≡ old.table

-- a step isn't made where the core can't take it, else where as many were made as a run may have; memory may be refused in any case
abbrev pub IsStepRefused : {P S E R A L : Type 0} → Machine S E R A L → CoreView P S E L → Label E → StepFault → Type 0
IsStepRefused M c l NotEnabled = CanTake M c l → ⊥
IsStepRefused M c l Full = CanTake M c l × (c.steps ≡ MOST_PROGRAM_STEPS)
IsStepRefused M c l Memory = Unit {0}
