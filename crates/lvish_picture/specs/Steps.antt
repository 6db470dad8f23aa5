-- What each kind of step does to a table.
use Rattle.std.specs.Prelude.{◌≡◌, ◌<◌, ℕ, suc, Bool, false, true, List, [], length, replicate, Option, Some, None, slice_get, slice_set, map}
use Rattle.lvish_calculus.specs.declared.request.ErrorKind.{ErrorKind}
use Rattle.lvish_calculus.specs.declared.request.ErrorKind.TheVariants.{Conflict, Frozen, Late, Deep}
use Rattle.lvish_calculus.specs.declared.request.Request.{Request}
use Rattle.lvish_calculus.specs.declared.request.Request.TheVariants.{Put, Fork, Add, Freeze, Fault}
use Rattle.lvish_calculus.specs.declared.request.Reply.TheVariants.{Done, Content}
use Rattle.lvish_calculus.specs.Machine.{Machine}
use Rattle.lvish_calculus.specs.Calculus.{Task, Live, Changes, IsReady, IsQuiescent, request_effect, start, with_task}
use Rattle.lvish_names.specs.Names.{Name, Handler, handed, is_deep}
use Rattle.lvish_variable.specs.declared.put_fault.PutFault.TheVariants.{Conflict as PutConflict, Frozen as PutFrozen}
use Rattle.lvish_variable.specs.Variable.{VariableView as Variable, IsPut, IsPutRefused}
use Rattle.lvish_handlers.specs.Handlers.{HandlersView as Handlers, IsAdded, IsAdvanced, next_of}
use Rattle.lvish_picture.specs.Picture.{Table, table_picture, task_of}

module _ {S E R A L : Type 0} (M : Machine S E R A L) where
  -- the task t is in the local state l, with these numbers of forks, adds and puts, and asks for r
  pub record IsAsking (c : Table S E L) (t : Name E) (l : L) (forks adds puts : ℕ) (r : Request S R L) : Type 0 where
    pub live : task_of M.event_same c.tasks t ≡ Live l forks adds puts
    pub asked : M.request l ≡ r

-- the tasks are the old ones, except for the acting one and a new one
abbrev pub AreTasks : {E L : Type 0} → (E → E → Bool) → List (Name E × Task L) → Option (Name E × Task L) → Option (Name E × Task L) → List (Name E × Task L) → Type 0
AreTasks {E} eq old own made new = (u : Name E) → task_of eq new u ≡ with_task eq own (with_task eq made (task_of eq old)) u

-- the handlers in each place are the old ones, with their cursors; the numbers of running tasks may differ
abbrev pub AreHeld : {E : Type 0} → List (Handlers E) → List (Handlers E) → Type 0
AreHeld old new = map (λ hs. hs.held) new ≡ map (λ hs. hs.held) old

module _ {S E R A L : Type 0} (M : Machine S E R A L) where
  -- a put of t: the variable takes it, and t goes on
  pub record IsPutStep (c : Table S E L) (t : Name E) (d : Table S E L) : Type 0 where
    pub local : L
    pub forks : ℕ
    pub adds : ℕ
    pub puts : ℕ
    pub variable : ℕ
    pub put : S
    pub asking : IsAsking M c t local forks adds puts (Put variable put)
    pub old : Variable S E
    pub was : slice_get c.variables variable ≡ Some old
    pub new : Variable S E
    pub taken : IsPut M.join M.event_same M.events t (suc puts) put old new
    pub variables : d.variables ≡ slice_set c.variables variable new
    pub handlers : d.handlers ≡ c.handlers
    pub tasks : AreTasks M.event_same c.tasks (Some (t, Live (M.resume (M.at local) Done) forks adds (suc puts))) None d.tasks

  -- a freeze of t: the variable is marked, and t goes on with its state
  pub record IsFreezeStep (c : Table S E L) (t : Name E) (d : Table S E L) : Type 0 where
    pub local : L
    pub forks : ℕ
    pub adds : ℕ
    pub puts : ℕ
    pub variable : ℕ
    pub pools : List ℕ
    pub asking : IsAsking M c t local forks adds puts (Freeze variable pools)
    pub quiet : IsQuiescent M (table_picture M c) variable pools
    pub old : Variable S E
    pub was : slice_get c.variables variable ≡ Some old
    pub variables : d.variables ≡ slice_set c.variables variable (record { state = old.state; frozen = true; log = old.log })
    pub handlers : d.handlers ≡ c.handlers
    pub tasks : AreTasks M.event_same c.tasks (Some (t, Live (M.resume (M.at local) (Content old.state)) forks adds puts)) None d.tasks

  -- t adds a handler that was handed nothing yet
  pub record IsAddStep (c : Table S E L) (t : Name E) (d : Table S E L) : Type 0 where
    pub local : L
    pub forks : ℕ
    pub adds : ℕ
    pub puts : ℕ
    pub pool : ℕ
    pub procedure : ℕ
    pub asking : IsAsking M c t local forks adds puts (Add pool procedure)
    pub shallow : is_deep t ≡ false
    pub variable : ℕ
    pub of : M.pool_variable pool ≡ Some variable
    pub at : Variable S E
    pub at_is : slice_get c.variables variable ≡ Some at
    pub unfrozen : at.frozen ≡ false
    pub old : Handlers E
    pub was : slice_get c.handlers variable ≡ Some old
    pub new : Handlers E
    pub added : IsAdded (record { name = record { adder = t; number = suc adds }; pool = pool; procedure = procedure; handed = 0 }) old new
    pub variables : d.variables ≡ c.variables
    pub handlers : d.handlers ≡ slice_set c.handlers variable new
    pub tasks : AreTasks M.event_same c.tasks (Some (t, Live (M.resume (M.at local) Done) forks (suc adds) puts)) None d.tasks

  -- a get, a fork, a pause or an end of t: variables, handlers and cursors stay
  pub record IsPlainStep (c : Table S E L) (t : Name E) (d : Table S E L) : Type 0 where
    pub local : L
    pub forks : ℕ
    pub adds : ℕ
    pub puts : ℕ
    pub request : Request S R L
    pub asking : IsAsking M c t local forks adds puts request
    pub ready : IsReady M (table_picture M c) request
    pub own : Option (Name E × Task L)
    pub made : Option (Name E × Task L)
    pub does : request_effect M (table_picture M c) t (M.at local) forks adds puts request ≡ Changes (record { own = own; made = made; added = None; joined = None; froze = None; handing = None })
    pub variables : d.variables ≡ c.variables
    pub handlers : AreHeld c.handlers d.handlers
    pub tasks : AreTasks M.event_same c.tasks own made d.tasks

  -- the handler h is handed e, the next entry of its variable's log, and a task starts on it
  pub record IsHandStep (c : Table S E L) (h : Handler E) (e : E) (d : Table S E L) : Type 0 where
    pub variable : ℕ
    pub at : Variable S E
    pub at_is : slice_get c.variables variable ≡ Some at
    pub old : Handlers E
    pub was : slice_get c.handlers variable ≡ Some old
    pub next : next_of M.event_same at.log old.held h ≡ Some e
    pub new : Handlers E
    pub advanced : IsAdvanced M.event_same at.log h old new
    pub variables : d.variables ≡ c.variables
    pub handlers : AreHeld (slice_set c.handlers variable new) d.handlers
    pub tasks : AreTasks M.event_same c.tasks None (Some (handed h.adder h.number e, Live (M.start_handler advanced.handler.procedure e) 0 0 0)) d.tasks

  -- t's request is an error, as the variable and the task's name show
  abbrev pub IsErring : Table S E L → Name E → Request S R L → ErrorKind → Option ℕ → Type 0
  IsErring c t (Put v put) Conflict o = (old : Variable S E) × (slice_get c.variables v ≡ Some old) × IsPutRefused M.join put old PutConflict × (o ≡ Some v)
  IsErring c t (Put v put) Frozen o = (old : Variable S E) × (slice_get c.variables v ≡ Some old) × IsPutRefused M.join put old PutFrozen × (o ≡ Some v)
  IsErring c t (Fork child) Deep o = (is_deep t ≡ true) × (o ≡ None)
  IsErring c t (Add pool procedure) Deep o = (is_deep t ≡ true) × (o ≡ None)
  IsErring c t (Add pool procedure) Late o =
      (v : ℕ) × (old : Variable S E) × (is_deep t ≡ false) × (M.pool_variable pool ≡ Some v) × (slice_get c.variables v ≡ Some old) × (old.frozen ≡ true) × (o ≡ Some v)
  IsErring c t (Fault kind) k o = (k ≡ kind) × (o ≡ None)
  IsErring c t _ _ o = ⊥

  -- every variable at bottom, unfrozen and with no log, no handler, this many pools with no task, and main alone in its first local state
  pub record IsTableBegun (pools : ℕ) (c : Table S E L) : Type 0 where
    pub variables : (v : ℕ) (x : Variable S E) → slice_get c.variables v ≡ Some x → x ≡ record { state = M.bottom; frozen = false; log = [] }
    pub beside : length c.handlers ≡ length c.variables
    pub handlers : (v : ℕ) (hs : Handlers E) → slice_get c.handlers v ≡ Some hs → hs ≡ record { held = []; running = replicate pools 0 }
    pub known : (p v : ℕ) → M.pool_variable p ≡ Some v → p < pools
    pub tasks : (u : Name E) → task_of M.event_same c.tasks u ≡ (start M).tasks u
