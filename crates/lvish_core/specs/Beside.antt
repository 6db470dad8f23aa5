-- Changes to one variable, or to the handlers of one, among all.
use Rattle.std.specs.Prelude.{◌≡◌, ◌<◌, ◌+◌, ◌-◌, ℕ, Bool, true, List, Option, Some, None, length, slice_get, slice_set, slice_index}
use Rattle.lvish_core.specs.Vocabulary.{MOST_PROGRAM_STEPS, PutFault, Held, HandlerPlace}
use Rattle.lvish_names.specs.Names.{Name, Handler}
use Rattle.lvish_variable.specs.Variable.{VariableView as Variable, IsPut, IsPutRefused}
use Rattle.lvish_handlers.specs.Places.{IsAt}
use Rattle.lvish_handlers.specs.Handlers.{HandlersView as Handlers, IsHeld, IsWithin, IsAdded, IsAdvanced, next_of}

-- the v-th variable took the put, and the others stay
pub record PutAt {S E : Type 0} (join : S → S → Option S) (eq : E → E → Bool) (events : S → List E) (task : Name E) (number : ℕ) (put : S) (v : ℕ) (old new : List (Variable S E)) : Type 0 where
  pub from : Variable S E
  pub was : slice_get old v ≡ Some from
  pub to : Variable S E
  pub taken : IsPut join eq events task number put from to
  pub is : new ≡ slice_set old v to

-- why the v-th variable refuses the put
pub record RefusedAt {S E : Type 0} (join : S → S → Option S) (put : S) (v : ℕ) (old : List (Variable S E)) (f : PutFault) : Type 0 where
  pub from : Variable S E
  pub was : slice_get old v ≡ Some from
  pub refused : IsPutRefused join put from f

-- the v-th variable is frozen, and nothing else is changed
pub record FrozenAt {S E : Type 0} (v : ℕ) (old new : List (Variable S E)) : Type 0 where
  pub from : Variable S E
  pub was : slice_get old v ≡ Some from
  pub is : new ≡ slice_set old v (record { state = from.state; frozen = true; log = from.log })

-- the v-th variable's handlers have one more, and the others stay
pub record AddedAt {E : Type 0} (handler : Held E) (v : ℕ) (old new : List (Handlers E)) : Type 0 where
  pub from : Handlers E
  pub was : slice_get old v ≡ Some from
  pub to : Handlers E
  pub added : IsAdded handler from to
  pub is : new ≡ slice_set old v to

-- with one more task in the pool
abbrev pub one_more_in : {E : Type 0} → ℕ → Handlers E → Handlers E
one_more_in p hs = record { held = hs.held; running = slice_set hs.running p (slice_index hs.running p + 1) }

-- with one task fewer in the pool
abbrev pub one_less_in : {E : Type 0} → ℕ → Handlers E → Handlers E
one_less_in p hs = record { held = hs.held; running = slice_set hs.running p (slice_index hs.running p - 1) }

-- the place's pool exists, and its number of tasks fits
pub record IsPoolAt {E : Type 0} (Fits : ℕ → Type 0) (hss : List (Handlers E)) (p : HandlerPlace) : Type 0 where
  pub beside : Handlers E
  pub at : slice_get hss p.variable ≡ Some beside
  pub there : p.pool < length beside.running
  pub fits : Fits (slice_index beside.running p.pool)

-- the count of the pool can be changed, if there is one
abbrev pub CanCount : {E : Type 0} → (ℕ → Type 0) → List (Handlers E) → Option HandlerPlace → Type 0
CanCount Fits hss None = Unit {0}
CanCount Fits hss (Some p) = IsPoolAt Fits hss p

-- the count of the pool is changed, if there is one
abbrev pub CountsAt : {E : Type 0} → (ℕ → Handlers E → Handlers E) → List (Handlers E) → Option HandlerPlace → List (Handlers E) → Type 0
CountsAt change old None new = new ≡ old
CountsAt {E} change old (Some p) new = (hs : Handlers E) × (slice_get old p.variable ≡ Some hs) × (new ≡ slice_set old p.variable (change p.pool hs))

-- the handler was handed one more entry, one more task runs in its pool, and the others stay
pub record HandedAt {S E : Type 0} (eq : E → E → Bool) (variables : List (Variable S E)) (name : Handler E) (p : HandlerPlace) (old new : List (Handlers E)) : Type 0 where
  pub at : Variable S E
  pub at_is : slice_get variables p.variable ≡ Some at
  pub from : Handlers E
  pub was : slice_get old p.variable ≡ Some from
  pub to : Handlers E
  pub advanced : IsAdvanced eq at.log name from to
  pub is : new ≡ slice_set old p.variable (one_more_in p.pool to)

-- an entry of the log comes next for the handler, which is beside its variable, and one more task may run in its pool
pub record CanHand {S E : Type 0} (eq : E → E → Bool) (variables : List (Variable S E)) (name : Handler E) (p : HandlerPlace) (hss : List (Handlers E)) : Type 0 where
  pub at : Variable S E
  pub at_is : slice_get variables p.variable ≡ Some at
  pub within : (hs : Handlers E) → slice_get hss p.variable ≡ Some hs → IsWithin hs at.log
  pub event : E
  pub next : (hs : Handlers E) → slice_get hss p.variable ≡ Some hs → next_of eq at.log hs.held name ≡ Some event
  pub pool : IsPoolAt (λ n. n < MOST_PROGRAM_STEPS) hss p

-- a handler of this name may be added
pub record CanAdd {E : Type 0} (name : Handler E) (p : HandlerPlace) (hss : List (Handlers E)) : Type 0 where
  pub beside : Handlers E
  pub at : slice_get hss p.variable ≡ Some beside
  pub fresh : IsHeld beside.held name → ⊥
  pub there : p.pool < length beside.running

-- the handler is at this place among those of its variable
abbrev pub IsPostedAt : {E : Type 0} → Handler E → HandlerPlace → ℕ → List (Handlers E) → Type 0
IsPostedAt {E} name p at hss = (hs : Handlers E) → slice_get hss p.variable ≡ Some hs → IsAt hs.held name at
