-- Which steps are independent of each other, and of contents that grow.
use Rattle.std.specs.Prelude.{◌≡◌, ◌≢◌, ◌⊎◌, ℕ, List, Option, Some, None, option_and_then}
use Rattle.lvish_lattice.specs.Lattice.{IsAtOrBelow}
use Rattle.lvish_names.specs.Names.{Name}
use Rattle.lvish_calculus.specs.Machine.{Machine, Request, Put, Get, Add, Freeze, Conflict}
use Rattle.lvish_calculus.specs.Calculus.{State, Running, Error, Task, Live, Label, Act, Hand, Change, Changes, IsEnabled, Freezes, effect, step}
use Rattle.lvish_calculus.specs.Laws.{Reaches}

module _ {S E R A L : Type 0} (M : Machine S E R A L) where
  -- the variable that a request names, if it names one; a handler's is that of its pool
  abbrev pub request_variable : Request S R L → Option ℕ
  request_variable (Put v d) = Some v
  request_variable (Get v r) = Some v
  request_variable (Add pool procedure) = M.pool_variable pool
  request_variable (Freeze v pools) = Some v
  request_variable _ = None

  -- the variable that the next step of a task is about
  abbrev pub task_variable : Task L → Option ℕ
  task_variable (Live l f a p) = request_variable (M.request l)
  task_variable _ = None

  -- the variable that a step reads, writes, freezes or adds a handler to; of a handing, the variable of its handler
  abbrev pub footprint : State S E L → Label E → Option ℕ
  footprint c (Act t) = task_variable (c.tasks t)
  footprint c (Hand h e) = option_and_then (λ post. M.pool_variable post.pool) (c.handlers h)

  -- no variable is in the footprints of both steps
  abbrev pub AreDisjoint : State S E L → Label E → Label E → Type 0
  AreDisjoint c l m = (v : ℕ) → footprint c l ≡ Some v → footprint c m ≡ Some v → ⊥

  -- different enabled steps of disjoint footprints, neither of which is an error, commute
  abbrev pub DisjointCommute : Type 0
  DisjointCommute = (ls : List (Label E)) (c c1 c2 : State S E L) (l m : Label E) → Reaches M ls c → l ≢ m → AreDisjoint c l m → IsEnabled M c l → IsEnabled M c m
      → step M c l ≡ Running c1 → step M c m ≡ Running c2
      → (d : State S E L) × IsEnabled M c1 m × IsEnabled M c2 l × (step M c1 m ≡ Running d) × (step M c2 l ≡ Running d)

  -- the same configuration with these contents
  abbrev pub with_contents : State S E L → (ℕ → S) → State S E L
  with_contents c contents = record c { content = contents }

  -- in greater contents a step stays enabled with the same effect, unless its put conflicts there; for a freeze, where its variable's content is the same (LVars and LVish: independence)
  abbrev pub StepsStay : Type 0
  StepsStay = (c : State S E L) (greater : ℕ → S) (l : Label E) (ch : Change S E L) → ((v : ℕ) → IsAtOrBelow M.join (c.content v) (greater v)) → ((v : ℕ) → Freezes M c l v → greater v ≡ c.content v)
      → IsEnabled M c l → effect M c l ≡ Changes ch
      → IsEnabled M (with_contents c greater) l
      × ((effect M (with_contents c greater) l ≡ Changes ch) ⊎ ((v : ℕ) × (t : Name E) × (step M (with_contents c greater) l ≡ Error Conflict (Some v) t)))
