-- What a program promises, and its machine.
use Rattle.std.specs.Prelude.{◌≡◌, ◌<◌, ℕ, Bool, List, Option, Some, IsSome, Contains}
use Rattle.std.specs.declared.cmp.Ordering.{Ordering}
use Rattle.std.specs.Ordering.{is_le}
use Rattle.lvish_lattice.specs.Lattice.{IsChecked}
use Rattle.lvish_calculus.specs.Machine.{Machine, Request, Put, Get, Fork, Add, Freeze, Pause, Reply, Done, Answer, Content}

-- the functions of a program
pub record Functions (S E R A L : Type 0) : Type 0 where
  pub variables : ℕ
  pub pool_variable : ℕ → Option ℕ
  pub start : L
  pub start_handler : ℕ → E → L
  pub request : L → Request S R L
  pub at : L → L
  pub resume : L → Reply S A → L

-- the replies that fit a request
abbrev pub IsReplyTo : {S R A L : Type 0} → Request S R L → Reply S A → Type 0
IsReplyTo (Put v d) Done = Unit {0}
IsReplyTo (Get v r) (Answer a) = Unit {0}
IsReplyTo (Fork l) Done = Unit {0}
IsReplyTo (Add p procedure) Done = Unit {0}
IsReplyTo (Freeze v pools) (Content s) = Unit {0}
IsReplyTo Pause Done = Unit {0}
IsReplyTo _ _ = ⊥

-- the laws of a program's functions
pub record IsProgram {S E R A L : Type 0} (join : S → S → Option S) (member : R → S → A → Type 0) (p : Functions S E R A L) : Type 0 where
  -- each pool is on a variable that exists
  pub known : (k v : ℕ) → p.pool_variable k ≡ Some v → v < p.variables
  -- pools are numbered from 0 without a gap
  pub in_a_row : (j k : ℕ) → j < k → IsSome (p.pool_variable k) → IsSome (p.pool_variable j)
  -- requests name variables and pools that exist
  pub puts : (l : L) (v : ℕ) (d : S) → p.request l ≡ Put v d → v < p.variables
  pub gets : (l : L) (v : ℕ) (r : R) → p.request l ≡ Get v r → (v < p.variables) × IsChecked join (member r)
  pub adds : (l : L) (k procedure : ℕ) → p.request l ≡ Add k procedure → (v : ℕ) × (p.pool_variable k ≡ Some v)
  -- a freeze names pools of its variable alone
  pub freezes : (l : L) (v : ℕ) (pools : List ℕ) → p.request l ≡ Freeze v pools → (v < p.variables) × ((k : ℕ) → Contains pools k → p.pool_variable k ≡ Some v)
  -- the local state in which a request is made makes that request
  pub repeats : (l : L) → p.request (p.at l) ≡ p.request l

-- a program over its lattice
abbrev pub machine_of : {S E R A L : Type 0} → (S → S → Bool) → (E → E → Bool) → (E → E → Ordering) → S → (S → S → Option S) → (S → List E) → (R → S → Option A) → Functions S E R A L → Machine S E R A L
machine_of same event_same cmp bottom join events answer p = record {
  bottom = bottom;
  join = join;
  events = events;
  same = same;
  event_same = event_same;
  event_le = λ x y. is_le (cmp x y);
  answer = answer;
  pool_variable = p.pool_variable;
  start = p.start;
  start_handler = p.start_handler;
  request = p.request;
  at = p.at;
  resume = p.resume;
}
