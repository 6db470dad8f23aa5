-- The work that a step leaves, as the board finds it.
use Rattle.std.specs.Prelude.{◌≡◌, ◌⊎◌, ◌≤◌, ℕ, List, [], ◌∷◌, ◌++◌, drop, length, map, Option, None, Some, slice_get}
use Rattle.std.specs.List.Sorted.{IsStrictlySortedBy}
use Rattle.std.specs.declared.cmp.Ordering.{Ordering}
use Rattle.lvish_names.specs.NameOrder.{name_cmp}
use Rattle.lvish_board.specs.Vocabulary.{Act, Request, Put, Add, Entry, Held, Stepped, Made, Moved, Touched, PutOn as Touches, Work}
use Rattle.lvish_calculus.specs.Machine.{Machine}
use Rattle.lvish_names.specs.Names.{Name, Handler}
use Rattle.lvish_variable.specs.Variable.{VariableView as Variable}
use Rattle.lvish_handlers.specs.Handlers.{IsByName}
use Rattle.lvish_core.specs.Reads.{AreHandlers}
use Rattle.lvish_core.specs.Changes.{IsMoved}
use Rattle.lvish_core.specs.Core.{CoreView, CanTake, IsStep, state}
use Rattle.lvish_board.specs.Stand.{TaskStand}
use Rattle.lvish_board.specs.Board.{tasks_of}
use Rattle.lvish_board.specs.Woken.{IsWoken, MayWake}
use Rattle.lvish_board.specs.Listed.{stretches, acts, handings, option_list, HasNext}

-- the place where the acting task goes on
abbrev pub own_ticket : {E L : Type 0} → Name E → Option L → Option (TaskStand E L)
own_ticket t None = None
own_ticket t (Some l) = Some (record { task = t; from = l })

-- the place where a new task starts
abbrev pub made_ticket : {E L : Type 0} → Option (Made E L) → Option (TaskStand E L)
made_ticket None = None
made_ticket (Some m) = Some (record { task = m.name; from = m.local })

-- the log of a variable from the entry of this number on
abbrev pub log_from : {S E : Type 0} → ℕ → Option (Variable S E) → List (Entry E)
log_from logged None = []
log_from logged (Some x) = drop logged x.log

-- the entries that the last step brought to the log of its variable, where it had that many before
abbrev pub fresh_in : {S E : Type 0} → List (Variable S E) → ℕ → Option Touched → List (Entry E)
fresh_in variables logged (Some (Touches v)) = log_from logged (slice_get variables v)
fresh_in variables logged touched = []

-- where the last step was a put, its variable is there, and its log has no fewer entries
abbrev pub IsLogged : {S E : Type 0} → List (Variable S E) → ℕ → Option Touched → Type 0
IsLogged {S} {E} variables logged (Some (Touches v)) = (x : Variable S E) × (slice_get variables v ≡ Some x) × (logged ≤ length x.log)
IsLogged variables logged touched = Unit {0}

-- the elements of the list for which P holds, in their order
abbrev pub AreThose : {X : Type 0} → (X → Type 0) → List X → List X → Type 0
AreThose P [] those = those ≡ []
AreThose {X} P (x ∷ xs) those = ((ys : List X) × (those ≡ x ∷ ys) × P x × AreThose P xs ys) ⊎ ((P x → ⊥) × AreThose P xs those)

-- the work of these tickets, of the woken tasks, and of the handlers among these with something left
pub record IsListOf {P' P B S L R A W E Ans : Type 0} (M : Machine S E R Ans L) (c : CoreView P' S E L) (own made : Option (TaskStand E L)) (woken : List (TaskStand E L)) (handlers : List (Handler E)) (ws : List (Work P B S L R A W E)) : Type 0 where
  pub hands : List (Handler E)
  pub are : AreThose (λ h. HasNext M c h) handlers hands
  pub is : ws ≡ stretches (option_list own ++ option_list made) ++ acts woken ++ handings hands

-- the handlers that a step may concern: those of a put's variable, where it brought an entry, and an added one
abbrev pub candidates : {E X : Type 0} → List X → List (Handler E) → Option (Handler E) → List (Handler E)
candidates [] handlers added = option_list added
candidates (x ∷ xs) handlers added = handlers ++ option_list added

-- the work that a step leaves: its tickets, the parked tasks that it woke, and of the handlers that it may concern those with something left
pub record IsLeft {P' P B S L R A W E Ans : Type 0} (cmp : E → E → Ordering) (M : Machine S E R Ans L) {Spot : Type 0} (spot_of : E → Spot) (watched : R → Option Spot) (c : CoreView P' S E L) (logged : ℕ) (own made : Option (TaskStand E L)) (added : Option (Handler E)) (handlers : List (Handler E)) (old new : List (TaskStand E L)) (ws : List (Work P B S L R A W E)) : Type 0 where
  pub woken : List (TaskStand E L)
  pub woken_are : IsWoken (λ p. CanTake M c (Act p.task)) (λ p. MayWake spot_of watched c.touched (fresh_in c.table.variables logged c.touched) (M.request p.from)) old new woken
  pub by_name : IsStrictlySortedBy (name_cmp cmp) (tasks_of woken)
  pub work : IsListOf M c own made woken (candidates (fresh_in c.table.variables logged c.touched) handlers added) ws

-- how many handlers a request adds at most
abbrev pub most_added : {S R L : Type 0} → Request S R L → ℕ
most_added (Add pool procedure) = 1
most_added r = 0

-- the handlers that a request may concern: of a put those of its variable, by name, whose log has that many entries; of another request none that was there before
abbrev pub AreConcerned : {P S E R A L : Type 0} → (E → E → Ordering) → Machine S E R A L → CoreView P S E L → Request S R L → List (Handler E) → ℕ → Type 0
AreConcerned {S = S} {E = E} cmp M c (Put v d) handlers logged =
    (held : List (Held E)) × AreHandlers M c v held × IsByName cmp held × (handlers ≡ map (λ k. k.name) held) × ((x : Variable S E) × (slice_get c.table.variables v ≡ Some x) × (logged ≡ length x.log))
AreConcerned cmp M c r handlers logged = handlers ≡ []

-- what a core tells of a step of the task at this place, before which its put's variable had that many entries in its log; these are the handlers that the step may concern
pub record IsStepOf {P S E R A L : Type 0} (cmp : E → E → Ordering) (M : Machine S E R A L) (c : CoreView P S E L) (p : TaskStand E L) (d : CoreView P S E L) (logged : ℕ) (handlers : List (Handler E)) (stepped : Stepped) (moved : Moved E L) : Type 0 where
  pub step : IsStep M c (Act p.task) d stepped
  pub told : IsMoved M (state M c) (Act p.task) moved
  pub concerned : AreConcerned cmp M c (M.request p.from) handlers logged
  pub long : length c.table.variables ≡ length d.table.variables
