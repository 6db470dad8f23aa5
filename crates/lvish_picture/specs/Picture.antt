-- The configuration that a table of variables, handlers and tasks stands for.
use Rattle.std.specs.Prelude.{◌≡◌, ℕ, Bool, false, ◌&&◌, List, [], ◌∷◌, ◌++◌, length, take, map, Option, Some, All, if◌then◌else◌, slice_get, unwrap_or, option_map}
use Rattle.std.specs.List.{find, list_any}
use Rattle.std.specs.Set.{is_member}
use Rattle.lvish_calculus.specs.Machine.{Machine}
use Rattle.lvish_calculus.specs.declared.label.Label.{Label}
use Rattle.lvish_calculus.specs.Calculus.{Task, Absent, Post, State}
use Rattle.lvish_names.specs.Names.{Name, Handler, same_name, same_handler}
use Rattle.lvish_calculus.specs.Laws.{Reaches}
use Rattle.lvish_calculus.specs.Handing.{HandsOldestFirst, NoRepeats}
use Rattle.lvish_variable.specs.Variable.{VariableView as Variable, logged}
use Rattle.lvish_handlers.specs.declared.held.Held.{Held}
use Rattle.lvish_handlers.specs.Handlers.{HandlersView as Handlers, IsWithin}
use Rattle.lvish_picture.specs.Logs.{IsInOrder}

-- each variable, the handlers of each, and each task under its name
pub record Table (S E L : Type 0) : Type 0 where
  pub variables : List (Variable S E)
  pub handlers : List (Handlers E)
  pub tasks : List (Name E × Task L)

-- a handler, beside the events of its variable's log
pub record HandlerAtLog (E : Type 0) : Type 0 where
  pub log : List E
  pub held : Held E

-- handlers of one variable
abbrev pub seats_at : {E : Type 0} → List E → List (Held E) → List (HandlerAtLog E)
seats_at log held = map (λ h. record { log = log; held = h }) held

-- the handlers of all variables
abbrev pub seats : {S E : Type 0} → List (Variable S E) → List (Handlers E) → List (HandlerAtLog E)
seats (x ∷ xs) (hs ∷ hss) = seats_at (logged x.log) hs.held ++ seats xs hss
seats _ _ = []

-- the handler's pool and procedure, if it is there
abbrev pub post_in : {E : Type 0} → (E → E → Bool) → List (HandlerAtLog E) → Handler E → Option Post
post_in eq ss h = option_map (λ s. record { pool = s.held.pool; procedure = s.held.procedure }) (find (λ s. same_handler eq h s.held.name) ss)

-- e is among the first entries of the log of h's variable, as many as h was handed
abbrev pub handed_in : {E : Type 0} → (E → E → Bool) → List (HandlerAtLog E) → Handler E → E → Bool
handed_in eq ss h e = list_any (λ s. same_handler eq h s.held.name && is_member eq (take s.held.handed s.log) e) ss

-- what runs under a name
abbrev pub task_of : {E L : Type 0} → (E → E → Bool) → List (Name E × Task L) → Name E → Task L
task_of eq [] t = Absent
task_of eq (x ∷ xs) t = if same_name eq t x.0 then x.1 else task_of eq xs t

module _ {S E R A L : Type 0} (M : Machine S E R A L) where
  -- the configuration that the table stands for; variables that it does not have are at bottom and unfrozen
  abbrev pub table_picture : Table S E L → State S E L
  table_picture c = record {
    content = λ v. unwrap_or (option_map (λ x. x.state) (slice_get c.variables v)) M.bottom;
    frozen = λ v. unwrap_or (option_map (λ x. x.frozen) (slice_get c.variables v)) false;
    tasks = task_of M.event_same c.tasks;
    handlers = post_in M.event_same (seats c.variables c.handlers);
    handed = handed_in M.event_same (seats c.variables c.handlers);
  }

  -- the variables and their handlers fit together
  pub record IsTable (c : Table S E L) : Type 0 where
    -- each variable has its handlers
    pub beside : length c.handlers ≡ length c.variables
    -- no handler was handed more entries than the log has
    pub within : (v : ℕ) (x : Variable S E) (hs : Handlers E) → slice_get c.variables v ≡ Some x → slice_get c.handlers v ≡ Some hs → IsWithin hs x.log
    -- no two handlers have the same name
    pub once : NoRepeats (map (λ s. s.held.name) (seats c.variables c.handlers))
    -- each handler's pool is one of its variable
    pub own : (v : ℕ) (hs : Handlers E) → slice_get c.handlers v ≡ Some hs → All (λ h. M.pool_variable h.pool ≡ Some v) hs.held

  -- the run xs is a core run to the picture, each log has that run's events in the order of their introduction, and `IsTable` holds
  pub record IsPictured (c : Table S E L) (xs : List (Label E)) : Type 0 where
    pub reached : Reaches M xs (table_picture c)
    pub core : HandsOldestFirst M xs
    pub logs : (v : ℕ) (x : Variable S E) → slice_get c.variables v ≡ Some x → IsInOrder M xs (table_picture c) v (logged x.log)
    pub table : IsTable c

  -- a core run of n labels leads to the picture
  pub record IsTableReached (c : Table S E L) (n : ℕ) : Type 0 where
    pub run : List (Label E)
    pub count : length run ≡ n
    pub pictured : IsPictured c run
