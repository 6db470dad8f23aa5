-- What runs keep, and what only grows along them.
use Rattle.std.specs.Prelude.{◌≡◌, ℕ, Bool, true, List, Some}
use Rattle.lvish_lattice.specs.Lattice.{IsAtOrBelow}
use Rattle.lvish_names.specs.Names.{Name, Handler}
use Rattle.lvish_calculus.specs.Machine.{Machine}
use Rattle.lvish_calculus.specs.Calculus.{State, Running, Label, Absent, Ended, Post, IsEnabled, IsRun, start, step}
use Rattle.lvish_calculus.specs.Laws.{Reaches}

module _ {S E R A L : Type 0} (M : Machine S E R A L) where
  -- some run reaches c, and a step from there leads to d
  abbrev pub IsStepOfRuns : State S E L → State S E L → Type 0
  IsStepOfRuns c d = (ls : List (Label E)) × (l : Label E) × Reaches M ls c × IsEnabled M c l × (step M c l ≡ Running d)

  -- what holds at the start, and what each step of a run keeps, holds wherever a run leads (induction over runs)
  abbrev pub RunsKeep : Type 0
  RunsKeep = (holds : State S E L → Bool) → holds (start M) ≡ true → ((c d : State S E L) → IsStepOfRuns c d → holds c ≡ true → holds d ≡ true)
      → (ls : List (Label E)) (c : State S E L) → Reaches M ls c → holds c ≡ true

  -- d has all that c has: contents grow, but what is frozen stays as it is; handlers, handed events and tasks stay, and ended tasks stay ended
  pub record HasGrown (c d : State S E L) : Type 0 where
    pub contents : (v : ℕ) → IsAtOrBelow M.join (c.content v) (d.content v)
    pub frozen : (v : ℕ) → c.frozen v ≡ true → (d.frozen v ≡ true) × (d.content v ≡ c.content v)
    pub handlers : (h : Handler E) (post : Post) → c.handlers h ≡ Some post → d.handlers h ≡ Some post
    pub handed : (h : Handler E) (e : E) → c.handed h e ≡ true → d.handed h e ≡ true
    pub tasks : (t : Name E) → (c.tasks t ≡ Absent → ⊥) → d.tasks t ≡ Absent → ⊥
    pub ended : (t : Name E) → c.tasks t ≡ Ended → d.tasks t ≡ Ended

  -- wherever a run goes on to, it has grown
  abbrev pub RunsGrow : Type 0
  RunsGrow = (xs ys : List (Label E)) (c d : State S E L) → Reaches M xs c → IsRun M (Running c) ys (Running d) → HasGrown c d
