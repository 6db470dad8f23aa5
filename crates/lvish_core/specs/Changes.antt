-- What a step says of its change.
use Rattle.std.specs.Prelude.{◌≡◌, ℕ, Bool, List, [], ◌∷◌, ◌++◌, Option, Some, None, nat_eq, if◌then◌else◌, option_and_then, option_map}
use Rattle.lvish_lattice.specs.Lattice.{fresh_of}
use Rattle.lvish_core.specs.Vocabulary.{Label, Act, Hand, Entry, Touched, PutOn as Put, Handed, EndedIn, Other, Made, Moved}
use Rattle.lvish_calculus.specs.Machine.{Machine}
use Rattle.lvish_calculus.specs.Calculus.{Task, Absent, Live, Ended, State, Change, Effect, Changes, Fails, Nothing, effect}
use Rattle.lvish_names.specs.Names.{Name}
use Rattle.lvish_variable.specs.Variable.{entries}
use Rattle.lvish_picture.specs.Counts.{pool_of}

-- the local state in which a task goes on, if it does
abbrev pub local_of : {L : Type 0} → Task L → Option L
local_of Absent = None
local_of (Live l f a p) = Some l
local_of Ended = None

-- a task that is made, and the local state in which it starts
abbrev pub made_as : {E L : Type 0} → Name E → Option L → Option (Made E L)
made_as t None = None
made_as t (Some l) = Some (record { name = t; local = l })

-- what a change moves, as far as a step says it
abbrev pub moved_by : {S E L : Type 0} → Change S E L → Moved E L
moved_by ch = record {
  own = option_and_then (λ x. local_of x.1) ch.own;
  made = option_and_then (λ x. made_as x.0 (local_of x.1)) ch.made;
  added = option_map (λ x. x.0) ch.added;
}

-- an error moves nothing
abbrev pub nothing_moved : {E L : Type 0} → Moved E L
nothing_moved = record { own = None; made = None; added = None }

-- what a step moves
abbrev pub moved_in : {S E L : Type 0} → Effect S E L → Moved E L
moved_in (Changes ch) = moved_by ch
moved_in (Fails kind v t) = nothing_moved
moved_in Nothing = nothing_moved

module _ {S E R A L : Type 0} (M : Machine S E R A L) where
  -- what was moved is what the calculus's step with the label changes
  abbrev pub IsMoved : State S E L → Label E → Moved E L → Type 0
  IsMoved s l moved = moved ≡ moved_in (effect M s l)

  -- the entries that a put of the task t brings to v's log, where it goes on as own
  abbrev pub put_brings : State S E L → ℕ → Option (ℕ × S) → Option (Name E × Task L) → List (Entry E)
  put_brings s v (Some (w, d)) (Some (t, Live l f a p)) = if nat_eq v w then entries t p (fresh_of M.join M.event_same M.events (s.content v) d) else []
  put_brings s v _ _ = []

  abbrev pub brings : State S E L → ℕ → Effect S E L → List (Entry E)
  brings s v (Changes ch) = put_brings s v ch.joined ch.own
  brings s v (Fails kind w t) = []
  brings s v Nothing = []

  -- the entries that the step with the label brings to v's log: a put's fresh events with the task and the number of this put, and no others
  abbrev pub brought : State S E L → Label E → ℕ → List (Entry E)
  brought s l v = brings s v (effect M s l)

-- the variables in the order of their first freezes, after a step that freezes this variable, if it freezes one: a variable that was frozen before stands where it stood
abbrev pub more_frozen : List ℕ → (ℕ → Bool) → Option ℕ → List ℕ
more_frozen fs frozen None = fs
more_frozen fs frozen (Some v) = if frozen v then fs else fs ++ v ∷ []

-- the variable of a pool, where there is one
abbrev pub touching : (ℕ → Touched) → Option ℕ → Touched
touching on None = Other
touching on (Some v) = on v

module _ {S E R A L : Type 0} (M : Machine S E R A L) where
  -- what a task's change concerns
  abbrev pub touched_in : State S E L → Option (ℕ × S) → Option (Name E × Task L) → Touched
  touched_in s (Some (v, d)) own = Put v
  touched_in s None (Some (t, Ended)) = touching (λ v. EndedIn v) (option_and_then M.pool_variable (pool_of s t))
  touched_in s None _ = Other

  abbrev pub task_touches : State S E L → Effect S E L → Touched
  task_touches s (Changes ch) = touched_in s ch.joined ch.own
  task_touches s (Fails kind v t) = Other
  task_touches s Nothing = Other

  -- what the step with the label concerns: a put its variable, a handing the handler's, an end that of the task's pool; an error and every other step none
  abbrev pub touched_by : State S E L → Label E → Touched
  touched_by s (Act t) = task_touches s (effect M s (Act t))
  touched_by s (Hand h e) = touching (λ v. Handed v) (option_and_then (λ post. M.pool_variable post.pool) (s.handlers h))
