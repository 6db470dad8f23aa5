-- What the calculus knows of a lattice, its reads and a program.
use Rattle.std.specs.Prelude.{◌≡◌, ◌↔◌, ◌⊎◌, ℕ, Bool, true, List, Option, Some, Contains, option_and_then}
pub use Rattle.lvish_calculus.specs.declared.request.ErrorKind.{ErrorKind}
pub use Rattle.lvish_calculus.specs.declared.request.ErrorKind.TheVariants.{Conflict, Frozen, Late, Overflow, Zero, Range, Deep}
pub use Rattle.lvish_calculus.specs.declared.request.Request.{Request}
pub use Rattle.lvish_calculus.specs.declared.request.Request.TheVariants.{Put, Get, Fork, Add, Freeze, Pause, End, Fault}
pub use Rattle.lvish_calculus.specs.declared.request.Reply.{Reply}
pub use Rattle.lvish_calculus.specs.declared.request.Reply.TheVariants.{Done, Answer, Content}

-- the functions of a lattice with its reads, and of a program over it
pub record Machine (S E R A L : Type 0) : Type 0 where
  pub bottom : S
  pub join : S → S → Option S  -- None is top
  pub events : S → List E
  pub same : S → S → Bool
  pub event_same : E → E → Bool
  pub event_le : E → E → Bool
  pub answer : R → S → Option A
  pub pool_variable : ℕ → Option ℕ
  pub start : L
  pub start_handler : ℕ → E → L
  pub request : L → Request S R L
  pub at : L → L
  pub resume : L → Reply S A → L

module _ {S E R A L : Type 0} (M : Machine S E R A L) where
  -- an event is below a state
  abbrev pub IsBelow : E → S → Type 0
  IsBelow e s = Contains (M.events s) e

  -- a pool belongs to a variable
  abbrev pub IsOf : List ℕ → ℕ → Type 0
  IsOf pools v = (p : ℕ) → Contains pools p → M.pool_variable p ≡ Some v

  -- the laws of a lattice, its reads and a program
  pub record IsLawful : Type 0 where
    pub join_comm : (a b : S) → M.join a b ≡ M.join b a
    pub join_assoc : (a b c : S) → option_and_then (λ x. M.join x c) (M.join a b) ≡ option_and_then (λ x. M.join a x) (M.join b c)
    pub join_idem : (a : S) → M.join a a ≡ Some a
    pub join_bottom : (a : S) → M.join M.bottom a ≡ Some a
    pub events_bottom : (e : E) → IsBelow e M.bottom → ⊥
    pub events_join : (a b c : S) → M.join a b ≡ Some c → (e : E) → IsBelow e c ↔ (IsBelow e a ⊎ IsBelow e b)
    pub same_is : (a b : S) → (M.same a b ≡ true) ↔ (a ≡ b)
    pub event_same_is : (a b : E) → (M.event_same a b ≡ true) ↔ (a ≡ b)
    pub event_le_itself : (e : E) → M.event_le e e ≡ true
    pub answer_stays : (l : L) (v : ℕ) (r : R) → M.request l ≡ Get v r → (a b : S) (x : A) → M.join a b ≡ Some b → M.answer r a ≡ Some x → M.answer r b ≡ Some x
    pub freeze_own : (l : L) (v : ℕ) (pools : List ℕ) → M.request l ≡ Freeze v pools → IsOf pools v
    pub add_known : (l : L) (p proc : ℕ) → M.request l ≡ Add p proc → (v : ℕ) × (M.pool_variable p ≡ Some v)
