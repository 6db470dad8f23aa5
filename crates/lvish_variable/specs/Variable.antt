-- What a variable is, and what a put does to it.
use Rattle.std.specs.Prelude.{◌≡◌, ◌≢◌, ◌↔◌, ◌++◌, ℕ, Bool, true, List, Option, Some, None, Contains, AllPairs, map}
use Rattle.lvish_lattice.specs.Lattice.{fresh_of}
use Rattle.lvish_names.specs.Names.{Name}
use Rattle.lvish_variable.specs.declared.entry.Entry.{Entry}
use Rattle.lvish_variable.specs.declared.put_fault.PutFault.{PutFault}
use Rattle.lvish_variable.specs.declared.put_fault.PutFault.TheVariants.{Conflict, Frozen, Memory}

pub record VariableView (S E : Type 0) : Type 0 where
  pub state : S
  pub frozen : Bool
  pub log : List (Entry E)

-- the log's events
abbrev pub logged : {E : Type 0} → List (Entry E) → List E
logged log = map (λ e. e.event) log

-- the log has each event of the state once and no other
pub record IsLogOf {S E : Type 0} (events : S → List E) (state : S) (log : List (Entry E)) : Type 0 where
  pub same : (e : E) → Contains (logged log) e ↔ Contains (events state) e
  pub once : AllPairs (λ x y. x ≢ y) (logged log)

-- the entries of one put
abbrev pub entries : {E : Type 0} → Name E → ℕ → List E → List (Entry E)
entries task number events = map (λ e. record { event = e; task = task; number = number }) events

-- An accepted put: the state is the join, which on a frozen variable is the state that it had,
-- and the fresh events went onto the log's end.
pub record IsPut {S E : Type 0} (join : S → S → Option S) (eq : E → E → Bool) (events : S → List E) (task : Name E) (number : ℕ) (put : S) (old new : VariableView S E) : Type 0 where
  pub joined : join old.state put ≡ Some new.state
  pub mark : new.frozen ≡ old.frozen
  pub allowed : old.frozen ≡ true → new.state ≡ old.state
  pub log : new.log ≡ old.log ++ entries task number (fresh_of join eq events old.state put)

-- Why a put is refused: the join is top; or it isn't, the variable is frozen and the join differs
-- from its state; or there was no memory.
abbrev pub IsPutRefused : {S E : Type 0} → (S → S → Option S) → S → VariableView S E → PutFault → Type 0
IsPutRefused join put old Conflict = join old.state put ≡ None
IsPutRefused {S} join put old Frozen = (old.frozen ≡ true) × ((s : S) × (join old.state put ≡ Some s) × (s ≢ old.state))
IsPutRefused join put old Memory = Unit {0}
