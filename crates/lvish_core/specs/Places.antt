-- Where each handler is, by its name.
use Rattle.std.specs.Prelude.{◌≡◌, Bool, List, [], ◌∷◌, Option, Some, None, map, option_map, if◌then◌else◌}
use Rattle.lvish_calculus.specs.Machine.{Machine}
use Rattle.lvish_calculus.specs.Calculus.{Post, State}
use Rattle.lvish_names.specs.Names.{Name, Handler, same_handler}
use Rattle.lvish_picture.specs.Counts.{pool_of}
use Rattle.lvish_core.specs.declared.handler_place.HandlerPlace.{HandlerPlace}

-- the place under a name
abbrev pub place_at : {E : Type 0} → (E → E → Bool) → List (Handler E × HandlerPlace) → Handler E → Option HandlerPlace
place_at eq [] h = None
place_at eq (x ∷ xs) h = if same_handler eq h x.0 then Some x.1 else place_at eq xs h

-- the pool and the procedure of a place
abbrev pub post_of : HandlerPlace → Post
post_of p = record { pool = p.pool; procedure = p.procedure }

-- the names in a list of places
abbrev pub handlers_of : {E : Type 0} → List (Handler E × HandlerPlace) → List (Handler E)
handlers_of places = map (λ x. x.0) places

-- the new list has p under h, and under each other name what the old one has
pub record PlacesAt {E : Type 0} (eq : E → E → Bool) (old : List (Handler E × HandlerPlace)) (h : Handler E) (p : Option HandlerPlace) (new : List (Handler E × HandlerPlace)) : Type 0 where
  pub each : (k : Handler E) → place_at eq new k ≡ (if same_handler eq k h then p else place_at eq old k)

-- the places are those of the state's handlers, each with its pool, its procedure and the pool's variable
pub record IsIndex {S E R A L : Type 0} (M : Machine S E R A L) (s : State S E L) (places : List (Handler E × HandlerPlace)) : Type 0 where
  pub posts : (h : Handler E) → option_map post_of (place_at M.event_same places h) ≡ s.handlers h
  pub own : (h : Handler E) (p : HandlerPlace) → place_at M.event_same places h ≡ Some p → M.pool_variable p.pool ≡ Some p.variable

-- each name has the place that it had
pub record SamePlaces {E : Type 0} (eq : E → E → Bool) (old new : List (Handler E × HandlerPlace)) : Type 0 where
  pub same : (h : Handler E) → place_at eq new h ≡ place_at eq old h

-- the place of the handler in whose pool the task runs, if it runs in one
pub record IsPlaceOf {S E R A L : Type 0} (M : Machine S E R A L) (s : State S E L) (t : Name E) (place : Option HandlerPlace) : Type 0 where
  pub pool : option_map (λ p. p.pool) place ≡ pool_of s t
  pub own : (p : HandlerPlace) → place ≡ Some p → M.pool_variable p.pool ≡ Some p.variable
