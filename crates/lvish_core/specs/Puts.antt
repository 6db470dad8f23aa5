-- What the puts of a run bring to a variable's log, and which put brought an entry.
use Rattle.std.specs.Prelude.{◌≡◌, ℕ, suc, Bool, true, false, ◌&&◌, List, [], ◌∷◌, ◌++◌, Some, slice_get, if◌then◌else◌}
use Rattle.lvish_core.specs.Vocabulary.{Label, Act, Hand, Entry, Request, Put}
use Rattle.lvish_calculus.specs.Machine.{Machine}
use Rattle.lvish_calculus.specs.Calculus.{Task, Absent, Live, Ended, State, Configuration, Running, Error, start, step}
use Rattle.lvish_names.specs.Names.{Name, same_name}
use Rattle.lvish_calculus.specs.Laws.{Reaches}
use Rattle.lvish_calculus.specs.Handing.{Introduces}
use Rattle.lvish_core.specs.Changes.{brought}

-- a request to put
abbrev pub is_put : {S R L : Type 0} → Request S R L → Bool
is_put (Put v d) = true
is_put r = false

module _ {S E R A L : Type 0} (M : Machine S E R A L) where
  -- a task that asks to put
  abbrev pub asks_to_put : Task L → Bool
  asks_to_put (Live l f a p) = is_put (M.request l)
  asks_to_put Absent = false
  asks_to_put Ended = false

  -- the step with the label is a put of t
  abbrev pub is_put_of : Name E → State S E L → Label E → Bool
  is_put_of t c (Act u) = same_name M.event_same t u && asks_to_put (c.tasks u)
  is_put_of t c (Hand h e) = false

  -- how many puts t makes in a run from this configuration, into whatever variables
  abbrev pub put_count : Name E → Configuration S E L → List (Label E) → ℕ
  put_count t d [] = 0
  put_count t (Running c) (l ∷ ls) = if is_put_of t c l then suc (put_count t (step M c l) ls) else put_count t (step M c l) ls
  put_count t (Error kind v u) (l ∷ ls) = 0

  -- the entries that a run's steps bring to v's log, one step's after the other's
  abbrev pub brought_by_run : Configuration S E L → List (Label E) → ℕ → List (Entry E)
  brought_by_run d [] v = []
  brought_by_run (Running c) (l ∷ ls) v = brought M c l v ++ brought_by_run (step M c l) ls v
  brought_by_run (Error kind w t) (l ∷ ls) v = []

  -- after the run `before`, t is at a put into v, which is the n-th put that it makes, from 1
  pub record IsAtPut (before : List (Label E)) (t : Name E) (n v : ℕ) : Type 0 where
    pub at : State S E L
    pub reaches : Reaches M before at
    pub local : L
    pub forks : ℕ
    pub adds : ℕ
    pub puts : ℕ
    pub is : at.tasks t ≡ Live local forks adds puts
    pub put : S
    pub asked : M.request local ≡ Put v put
    pub number : n ≡ suc (put_count t (Running (start M)) before)

  -- the step of xs that comes after `before` brought the entry to v's log: it is the entry's task that makes it, at its put of the entry's number, and the entry's event is below v's state after this step and not before it
  pub record IsBroughtAfter (before xs : List (Label E)) (v : ℕ) (entry : Entry E) : Type 0 where
    pub after : List (Label E)
    pub is : xs ≡ before ++ Act entry.task ∷ after
    pub put : IsAtPut before entry.task entry.number v
    pub introduces : Introduces M before entry.task v entry.event

-- the entry is in the log, and no other place of the log has its event
pub record IsOnlyEntry {E : Type 0} (log : List (Entry E)) (entry : Entry E) : Type 0 where
  pub index : ℕ
  pub at : slice_get log index ≡ Some entry
  pub only : (i : ℕ) (x : Entry E) → slice_get log i ≡ Some x → x.event ≡ entry.event → i ≡ index
