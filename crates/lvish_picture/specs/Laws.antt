-- The laws of pictures.
use Rattle.std.specs.Prelude.{◌≡◌, ◌≢◌, ◌↔◌, ◌<◌, ◌+◌, ℕ, suc, true, List, [], ◌∷◌, ◌++◌, Option, Some, All, AllPairs, Contains, length, slice_get}
use Rattle.lvish_calculus.specs.declared.label.Label.{Label}
use Rattle.lvish_calculus.specs.declared.label.Label.TheVariants.{Act, Hand}
use Rattle.lvish_calculus.specs.declared.request.ErrorKind.{ErrorKind}
use Rattle.lvish_calculus.specs.declared.request.Request.{Request}
use Rattle.lvish_calculus.specs.Machine.{Machine, IsBelow}
use Rattle.lvish_calculus.specs.Calculus.{Absent, Live, Running, Error, IsOn, IsEnabled, IsEnd, IsReadyTask, IsRun, start, step}
use Rattle.lvish_names.specs.Names.{Name, forked, handed, Handler, handler_of}
use Rattle.lvish_calculus.specs.Handing.{HandsOldestFirst}
use Rattle.lvish_variable.specs.Variable.{VariableView as Variable}
use Rattle.lvish_handlers.specs.declared.held.Held.{Held}
use Rattle.lvish_handlers.specs.Handlers.{HandlersView as Handlers, IsHeld, next_of}
use Rattle.lvish_picture.specs.Picture.{Table, table_picture, task_of, IsPictured, IsTableReached}
use Rattle.lvish_picture.specs.Steps.{IsAsking, IsHandStep, IsErring}

module _ {S E R A L : Type 0} (M : Machine S E R A L) where
  -- the order of events tells them apart, and the events of each state ascend by it
  pub record IsOrdered : Type 0 where
    pub antisymmetric : (x y : E) → M.event_le x y ≡ true → M.event_le y x ≡ true → x ≡ y
    pub ascending : (s : S) → AllPairs (λ x y. (x ≢ y) × (M.event_le x y ≡ true)) (M.events s)

  -- the calculus leads from c's picture to d's by the label l, and d's is that of a core run as well
  pub record IsTableStep (c : Table S E L) (xs : List (Label E)) (l : Label E) (d : Table S E L) : Type 0 where
    pub enabled : IsEnabled M (table_picture M c) l
    pub stepped : step M (table_picture M c) l ≡ Running (table_picture M d)
    pub kept : IsPictured M d (xs ++ l ∷ [])

  -- a step leads from a table that n labels reach, to one that n + 1 labels reach
  abbrev pub OneStepMore : Type 0
  OneStepMore = (n : ℕ) (c d : Table S E L) (l : Label E) (k : IsTableReached M c n) → IsTableStep c k.run l d → IsTableReached M d (n + 1)

-- what a task does keeps the picture, where it is of this kind
abbrev pub ActKept : {S E R A L : Type 0} → (Machine S E R A L → Table S E L → Name E → Table S E L → Type 0) → Machine S E R A L → Type 0
ActKept {S} {E} {R} {A} {L} IsOfKind M = (xs : List (Label E)) (c d : Table S E L) (t : Name E) → IsPictured M c xs → IsOfKind M c t d → IsTableStep M c xs (Act t) d

module _ {S E R A L : Type 0} (M : Machine S E R A L) where
  -- a handing keeps the picture
  abbrev pub HandKept : Type 0
  HandKept = (xs : List (Label E)) (c d : Table S E L) (h : Handler E) (e : E) → IsPictured M c xs → IsHandStep M c h e d → IsTableStep M c xs (Hand h e) d

  -- an error is the calculus's, and its run is a core run
  abbrev pub ErrorsAreSteps : Type 0
  ErrorsAreSteps = (xs : List (Label E)) (c : Table S E L) (t : Name E) (l : L) (forks adds puts : ℕ) (r : Request S R L) (kind : ErrorKind) (v : Option ℕ)
      → IsPictured M c xs → IsAsking M c t l forks adds puts r → IsErring M c t r kind v
      → IsEnabled M (table_picture M c) (Act t) × (step M (table_picture M c) (Act t) ≡ Error kind v t)
      × IsRun M (Running (start M)) (xs ++ Act t ∷ []) (Error kind v t) × HandsOldestFirst M (xs ++ Act t ∷ [])

-- h is one of the handlers of the variable v
pub record IsHandlerSeated {S E L : Type 0} (c : Table S E L) (v : ℕ) (x : Variable S E) (hs : Handlers E) (h : Held E) : Type 0 where
  pub at : slice_get c.variables v ≡ Some x
  pub beside : slice_get c.handlers v ≡ Some hs
  pub held : Contains hs.held h

module _ {S E R A L : Type 0} (M : Machine S E R A L) where
  -- h can be handed something exactly where its cursor is below the log's length
  abbrev pub HandsBelowTheEnd : Type 0
  HandsBelowTheEnd = (xs : List (Label E)) (c : Table S E L) (v : ℕ) (x : Variable S E) (hs : Handlers E) (h : Held E) → IsPictured M c xs → IsHandlerSeated c v x hs h
      → ((e : E) × IsEnabled M (table_picture M c) (Hand h.name e)) ↔ (h.handed < length x.log)

  -- in a core run h can be handed exactly the log's next entry
  abbrev pub HandsTheNext : Type 0
  HandsTheNext = (xs : List (Label E)) (c : Table S E L) (v : ℕ) (x : Variable S E) (hs : Handlers E) (h : Held E) → IsPictured M c xs → IsHandlerSeated c v x hs h
      → (e : E) → (next_of M.event_same x.log hs.held h.name ≡ Some e) ↔ (IsEnabled M (table_picture M c) (Hand h.name e) × HandsOldestFirst M (xs ++ Hand h.name e ∷ []))

  -- only handlers of the table can be handed anything
  abbrev pub HandsTheHeld : Type 0
  HandsTheHeld = (xs : List (Label E)) (c : Table S E L) (name : Handler E) (e : E) → IsPictured M c xs → IsEnabled M (table_picture M c) (Hand name e)
      → (v : ℕ) × (x : Variable S E) × (hs : Handlers E) × (h : Held E) × IsHandlerSeated c v x hs h × (h.name ≡ name)

  -- the cursors of v's handlers are at the log's end exactly where every handler on v was handed every event below v's state
  abbrev pub DrainedAtTheEnd : Type 0
  DrainedAtTheEnd = (xs : List (Label E)) (c : Table S E L) (v : ℕ) (x : Variable S E) (hs : Handlers E) → IsPictured M c xs → slice_get c.variables v ≡ Some x → slice_get c.handlers v ≡ Some hs
      → All (λ h. h.handed ≡ length x.log) hs.held ↔ ((h : Handler E) (e : E) → IsOn M (table_picture M c) h v → IsBelow M e ((table_picture M c).content v) → (table_picture M c).handed h e ≡ true)

  -- no handler has the name of the next handler that a task adds
  abbrev pub NewHandlerIsNew : Type 0
  NewHandlerIsNew = (xs : List (Label E)) (c : Table S E L) (t : Name E) (l : L) (forks adds puts v : ℕ) (hs : Handlers E) → IsPictured M c xs → task_of M.event_same c.tasks t ≡ Live l forks adds puts
      → slice_get c.handlers v ≡ Some hs → IsHeld hs.held (record { adder = t; number = suc adds }) → ⊥

  -- no task has the name of the next task that a task forks, or of the task that handles a next entry
  abbrev pub NewTaskIsNew : Type 0
  NewTaskIsNew = (xs : List (Label E)) (c : Table S E L) → IsPictured M c xs
      → ((t : Name E) (l : L) (forks adds puts : ℕ) → task_of M.event_same c.tasks t ≡ Live l forks adds puts → task_of M.event_same c.tasks (forked t (suc forks)) ≡ Absent)
      × ((h : Handler E) (e : E) → IsEnabled M (table_picture M c) (Hand h e) → task_of M.event_same c.tasks (handed h.adder h.number e) ≡ Absent)

  -- the calculus's handlers are those of the table, with their pools and procedures, and each pool is one of its variable
  abbrev pub PostsAreHeld : Type 0
  PostsAreHeld = (xs : List (Label E)) (c : Table S E L) (v : ℕ) (x : Variable S E) (hs : Handlers E) (h : Held E) → IsPictured M c xs → IsHandlerSeated c v x hs h
      → ((table_picture M c).handlers h.name ≡ Some (record { pool = h.pool; procedure = h.procedure })) × (M.pool_variable h.pool ≡ Some v)

  -- the handler to which a task's name leads is one of the table
  abbrev pub TasksAreHeld : Type 0
  TasksAreHeld = (xs : List (Label E)) (c : Table S E L) (t : Name E) (name : Handler E) → IsPictured M c xs → (task_of M.event_same c.tasks t ≡ Absent → ⊥) → handler_of t ≡ Some name
      → (v : ℕ) × (x : Variable S E) × (hs : Handlers E) × (h : Held E) × IsHandlerSeated c v x hs h × (h.name ≡ name)

  -- nothing is enabled exactly where no task's request is ready and every cursor is at its log's end
  abbrev pub EndsByCursors : Type 0
  EndsByCursors = (xs : List (Label E)) (c : Table S E L) → IsPictured M c xs
      → IsEnd M (table_picture M c) ↔ (((t : Name E) → IsReadyTask M (table_picture M c) (task_of M.event_same c.tasks t) → ⊥)
      × ((v : ℕ) (x : Variable S E) (hs : Handlers E) → slice_get c.variables v ≡ Some x → slice_get c.handlers v ≡ Some hs → All (λ h. h.handed ≡ length x.log) hs.held))
