-- What a core's reads answer.
use Rattle.std.specs.Prelude.{◌≡◌, ◌<◌, ◌↔◌, ℕ, List, Some, All, Contains, length, slice_get}
use Rattle.lvish_core.specs.Vocabulary.{Request, Held}
use Rattle.lvish_calculus.specs.Machine.{Machine}
use Rattle.lvish_calculus.specs.Calculus.{Post, Live, IsReadyTask}
use Rattle.lvish_names.specs.Names.{Name, Handler}
use Rattle.lvish_calculus.specs.Live.{HasLive}
use Rattle.lvish_variable.specs.Variable.{VariableView as Variable}
use Rattle.lvish_handlers.specs.Handlers.{HandlersView as Handlers, IsWithin}
use Rattle.lvish_picture.specs.Picture.{Table}
use Rattle.lvish_core.specs.Core.{CoreView, state}
use Rattle.lvish_core.specs.Tasks.{IsAt}
use Rattle.lvish_core.specs.declared.stage.TaskNumbers.{TaskNumbers}

-- where the task is there and hasn't ended, this is the request that it makes
abbrev pub IsItsRequest : {P S E R A L : Type 0} → Machine S E R A L → CoreView P S E L → Name E → Request S R L → Type 0
IsItsRequest {L = L} M c t r = (l : L) (f a p : ℕ) → (state M c).tasks t ≡ Live l f a p → M.request l ≡ r

-- where the task is there and hasn't ended, this is the local state in which it asks
abbrev pub IsItsPlace : {P S E R A L : Type 0} → Machine S E R A L → CoreView P S E L → Name E → L → Type 0
IsItsPlace {L = L} M c t at = (l : L) (f a p : ℕ) → (state M c).tasks t ≡ Live l f a p → M.at l ≡ at

-- the task is there in this local state, with these numbers, and hasn't ended
abbrev pub IsLiveAt : {P S E R A L : Type 0} → Machine S E R A L → CoreView P S E L → Name E → L → TaskNumbers → Type 0
IsLiveAt M c t l n = ((state M c).tasks t ≡ Live l n.forks n.adds n.puts) × IsAt c.table.tasks n.index t

-- no task's request is ready
pub record NoneIsReady {P S E R A L : Type 0} (M : Machine S E R A L) (c : CoreView P S E L) : Type 0 where
  pub blocked : (t : Name E) → IsReadyTask M (state M c) ((state M c).tasks t) → ⊥

-- this many tasks haven't ended
abbrev pub HasRunning : {P S E R A L : Type 0} → Machine S E R A L → CoreView P S E L → ℕ → Type 0
HasRunning M c n = HasLive (state M c) n

-- all variables in their order, with the picture's states and marks
pub record AreStates {P S E R A L : Type 0} (M : Machine S E R A L) (variables : ℕ) (c : CoreView P S E L) (xs : List (Variable S E)) : Type 0 where
  pub are : xs ≡ c.table.variables
  pub count : length xs ≡ variables
  pub each : (v : ℕ) → v < variables → (x : Variable S E) × (slice_get xs v ≡ Some x) × (x.state ≡ (state M c).content v) × (x.frozen ≡ (state M c).frozen v)

-- a handler with its pool and its procedure
pub record IsHeldAs {E : Type 0} (held : List (Held E)) (h : Handler E) (post : Post) : Type 0 where
  pub handler : Held E
  pub there : Contains held handler
  pub named : handler.name ≡ h
  pub pool : handler.pool ≡ post.pool
  pub procedure : handler.procedure ≡ post.procedure

-- v's handlers in the order of their names: the picture's, with their pools and procedures
pub record AreHandlers {P S E R A L : Type 0} (M : Machine S E R A L) (c : CoreView P S E L) (v : ℕ) (held : List (Held E)) : Type 0 where
  pub beside : Handlers E
  pub at : slice_get c.table.handlers v ≡ Some beside
  pub are : held ≡ beside.held
  pub just : (h : Handler E) (post : Post) → IsHeldAs held h post ↔ (((state M c).handlers h ≡ Some post) × (M.pool_variable post.pool ≡ Some v))

-- no handler beside a variable was handed more than the log of the variable has
abbrev pub AreWithin : {S E : Type 0} → List (Variable S E) → List (Handlers E) → Type 0
AreWithin {S} {E} variables handlers = (v : ℕ) (x : Variable S E) (hs : Handlers E) → slice_get variables v ≡ Some x → slice_get handlers v ≡ Some hs → IsWithin hs x.log

-- every handler beside the variable of this number, if there is one, was handed the whole log of the variable
abbrev pub IsHandedAt : {S E : Type 0} → List (Variable S E) → List (Handlers E) → ℕ → Type 0
IsHandedAt {S} {E} variables handlers v = (x : Variable S E) (hs : Handlers E) → slice_get variables v ≡ Some x → slice_get handlers v ≡ Some hs → All (λ h. h.handed ≡ length x.log) hs.held

-- every handler beside a variable was handed the whole log of the variable
abbrev pub IsAllHanded : {S E : Type 0} → List (Variable S E) → List (Handlers E) → Type 0
IsAllHanded variables handlers = (v : ℕ) → IsHandedAt variables handlers v

-- every handler was handed the whole log of its variable
abbrev pub AreDrained : {S E L : Type 0} → Table S E L → Type 0
AreDrained c = IsAllHanded c.variables c.handlers

-- every handler on the variable of this number, if there is one, was handed its whole log
abbrev pub IsDrainedAt : {S E L : Type 0} → Table S E L → ℕ → Type 0
IsDrainedAt c v = IsHandedAt c.variables c.handlers v
