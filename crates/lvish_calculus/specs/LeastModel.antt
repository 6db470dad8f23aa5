-- What the contents at an end are, said without a run: the least that have all that tasks put which play against them.
use Rattle.std.specs.Prelude.{◌≡◌, ◌⊎◌, ◌↔◌, ◌++◌, ℕ, suc, Bool, true, false, List, Option, Some, None, if◌then◌else◌}
use Rattle.lvish_lattice.specs.Lattice.{IsAtOrBelow}
use Rattle.lvish_names.specs.Names.{Name, main, forked, handed, is_deep}
use Rattle.lvish_calculus.specs.Machine.{Machine, IsBelow, Request, Put, Get, Fork, Add, Freeze, Pause, Fault, Done, Answer, Content, ErrorKind, Frozen, Late}
use Rattle.lvish_calculus.specs.Calculus.{State, Error, Live, Label, IsEnabled, IsEnd, step}
use Rattle.lvish_calculus.specs.Laws.{Reaches, NeverErrs}
use Rattle.lvish_calculus.specs.Agreement.{NeverAsksFreeze}

-- where gets are answered from states that are `seen`, freezes from states that are `frozen`, and handlers are handed all events below seen states, a task of this name can come to this local state, after so many forks and adds
pub data Plays {S E R A L : Type 0} (M : Machine S E R A L) (seen frozen : ℕ → S → Type 0) : Name E → L → ℕ → ℕ → Type 0 where
  main_starts : Plays M seen frozen main M.start 0 0
  after_put : {t : Name E} {l : L} {f a : ℕ} (v : ℕ) (d : S) → Plays M seen frozen t l f a → M.request l ≡ Put v d → Plays M seen frozen t (M.resume (M.at l) Done) f a
  after_get : {t : Name E} {l : L} {f a : ℕ} (v : ℕ) (r : R) (s : S) (x : A) → Plays M seen frozen t l f a → M.request l ≡ Get v r → seen v s → M.answer r s ≡ Some x
      → Plays M seen frozen t (M.resume (M.at l) (Answer x)) f a
  after_fork : {t : Name E} {l : L} {f a : ℕ} (k : L) → Plays M seen frozen t l f a → M.request l ≡ Fork k → Plays M seen frozen t (M.resume (M.at l) Done) (suc f) a
  child_starts : {t : Name E} {l : L} {f a : ℕ} (k : L) → Plays M seen frozen t l f a → M.request l ≡ Fork k → Plays M seen frozen (forked t (suc f)) k 0 0
  after_add : {t : Name E} {l : L} {f a : ℕ} (pool procedure : ℕ) → Plays M seen frozen t l f a → M.request l ≡ Add pool procedure → Plays M seen frozen t (M.resume (M.at l) Done) f (suc a)
  handler_starts : {t : Name E} {l : L} {f a : ℕ} (pool procedure v : ℕ) (s : S) (e : E) → Plays M seen frozen t l f a → M.request l ≡ Add pool procedure → M.pool_variable pool ≡ Some v → seen v s → IsBelow M e s
      → Plays M seen frozen (handed t (suc a) e) (M.start_handler procedure e) 0 0
  after_freeze : {t : Name E} {l : L} {f a : ℕ} (v : ℕ) (pools : List ℕ) (s : S) → Plays M seen frozen t l f a → M.request l ≡ Freeze v pools → frozen v s → Plays M seen frozen t (M.resume (M.at l) (Content s)) f a
  after_pause : {t : Name E} {l : L} {f a : ℕ} → Plays M seen frozen t l f a → M.request l ≡ Pause → Plays M seen frozen t (M.resume (M.at l) Done) f a

module _ {S E R A L : Type 0} (M : Machine S E R A L) where
  -- the request of the task t is no error of its own, and what it puts is at or below the contents
  abbrev pub IsMet : (ℕ → S) → Name E → Request S R L → Type 0
  IsMet X t (Put v d) = IsAtOrBelow M.join d (X v)
  IsMet X t (Fork k) = is_deep t ≡ false
  IsMet X t (Add pool procedure) = is_deep t ≡ false
  IsMet X t (Fault kind) = ⊥
  IsMet X t _ = Unit {0}

  -- a task plays against the contents X, its freezes answered from the frozen contents F alone
  abbrev pub PlaysAgainst : (ℕ → S) → (ℕ → Option S) → Name E → L → ℕ → ℕ → Type 0
  PlaysAgainst X F = Plays M (λ v s. s ≡ X v) (λ v s. F v ≡ Some s)

  -- the contents have what all tasks put that play against them, and none of these comes to an error of its own
  abbrev pub IsClosed : (ℕ → S) → (ℕ → Option S) → Type 0
  IsClosed X F = (t : Name E) (l : L) (f a : ℕ) → PlaysAgainst X F t l f a → IsMet X t (M.request l)

  -- the contents have what all tasks put that play against them, whatever errors these come to: a model
  abbrev pub HasAllPuts : (ℕ → S) → (ℕ → Option S) → Type 0
  HasAllPuts X F = (t : Name E) (l : L) (f a v : ℕ) (d : S) → PlaysAgainst X F t l f a → M.request l ≡ Put v d → IsAtOrBelow M.join d (X v)

  -- the contents of the frozen variables
  abbrev pub frozen_contents : State S E L → ℕ → Option S
  frozen_contents c v = if c.frozen v then Some (c.content v) else None

  -- no task is left at a freeze of a variable that is frozen
  abbrev pub LeavesNoFreeze : State S E L → Type 0
  LeavesNoFreeze c = (t : Name E) (l : L) (f a p v : ℕ) (pools : List ℕ) → c.tasks t ≡ Live l f a p → M.request l ≡ Freeze v pools → c.frozen v ≡ false

  -- the contents at an end are closed, with what is frozen there, if no task is left at a freeze of it
  abbrev pub EndsAreClosed : Type 0
  EndsAreClosed = (xs : List (Label E)) (c : State S E L) → Reaches M xs c → IsEnd M c → LeavesNoFreeze c → IsClosed c.content (frozen_contents c)

  -- the contents that a run reaches are at or below every model with what it froze
  abbrev pub RunsAreLeast : Type 0
  RunsAreLeast = (xs : List (Label E)) (c : State S E L) → Reaches M xs c → (Y : ℕ → S) → HasAllPuts Y (frozen_contents c) → (v : ℕ) → IsAtOrBelow M.join (c.content v) (Y v)

  -- two such ends with the same frozen contents have the same contents
  abbrev pub FrozenDecides : Type 0
  FrozenDecides = (xs ys : List (Label E)) (a b : State S E L) → Reaches M xs a → Reaches M ys b → IsEnd M a → IsEnd M b → LeavesNoFreeze a → LeavesNoFreeze b
      → ((v : ℕ) → frozen_contents a v ≡ frozen_contents b v) → (v : ℕ) → a.content v ≡ b.content v

  -- somewhere in the run the task of this name is at this local state, after so many forks and adds
  pub record WasThere (xs : List (Label E)) (t : Name E) (l : L) (f a : ℕ) : Type 0 where
    pub front : List (Label E)
    pub back : List (Label E)
    pub cut : xs ≡ front ++ back
    pub there : State S E L
    pub reached : Reaches M front there
    pub puts : ℕ
    pub is : there.tasks t ≡ Live l f a puts

  -- exactly what was there in the run plays against the contents at such an end
  abbrev pub PlaysAreTasks : Type 0
  PlaysAreTasks = (xs : List (Label E)) (c : State S E L) → Reaches M xs c → IsEnd M c → LeavesNoFreeze c
      → (t : Name E) (l : L) (f a : ℕ) → PlaysAgainst c.content (frozen_contents c) t l f a ↔ WasThere xs t l f a

  -- where any contents are closed with what a run froze, its next step is no error but Frozen and Late, at a variable that it froze
  abbrev pub OnlyFrozenOrLate : Type 0
  OnlyFrozenOrLate = (xs : List (Label E)) (c : State S E L) → Reaches M xs c → (Y : ℕ → S) → IsClosed Y (frozen_contents c)
      → (l : Label E) (kind : ErrorKind) (v : Option ℕ) (t : Name E) → IsEnabled M c l → step M c l ≡ Error kind v t
      → (w : ℕ) × (v ≡ Some w) × (c.frozen w ≡ true) × ((kind ≡ Frozen) ⊎ (kind ≡ Late))

  -- if no task of any run asks to freeze, and any contents are closed, no run is in error
  abbrev pub ClosedNeverErrs : Type 0
  ClosedNeverErrs = NeverAsksFreeze M → (Y : ℕ → S) → IsClosed Y (λ v. None) → NeverErrs M

  -- the state has no event but those of Q
  abbrev pub HasOnly : (ℕ → E → Bool) → ℕ → S → Type 0
  HasOnly Q v s = (e : E) → IsBelow M e s → Q v e ≡ true

  -- tasks put no event but those of Q, where what they are answered from and are handed has no other
  abbrev pub PutsOnly : (ℕ → E → Bool) → Type 0
  PutsOnly Q = (t : Name E) (l : L) (f a v : ℕ) (d : S) → Plays M (HasOnly Q) (HasOnly Q) t l f a → M.request l ≡ Put v d → HasOnly Q v d

  -- if tasks put so, no run has an event but those of Q, ended or not
  abbrev pub EventsAreSupported : Type 0
  EventsAreSupported = (Q : ℕ → E → Bool) → PutsOnly Q → (xs : List (Label E)) (c : State S E L) → Reaches M xs c → (v : ℕ) → HasOnly Q v (c.content v)
