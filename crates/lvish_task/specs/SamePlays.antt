-- Two machines of which the same plays against all contents.
use Rattle.std.specs.Prelude.{◌≡◌, ℕ, Option}
use Rattle.lvish_names.specs.Names.{Name}
use Rattle.lvish_calculus.specs.Machine.{Machine}
use Rattle.lvish_calculus.specs.LeastModel.{PlaysAgainst}
use Rattle.lvish_calculus.specs.SameRuns.{without_child}

-- what plays of M plays of N: against the same contents, under the same name, after as many forks and adds, with the same request, whatever the local state of a fork's child
abbrev pub PlaysAreOf : {S E R A L K : Type 0} → Machine S E R A L → Machine S E R A K → Type 0
PlaysAreOf {S} {E} {R} {A} {L} {K} M N = (X : ℕ → S) (F : ℕ → Option S) (t : Name E) (l : L) (f a : ℕ) → PlaysAgainst M X F t l f a
    → (k : K) × PlaysAgainst N X F t k f a × (without_child (M.request l) ≡ without_child (N.request k))

-- what plays of the one plays of the other
pub record HaveSamePlays {S E R A L K : Type 0} (M : Machine S E R A L) (N : Machine S E R A K) : Type 0 where
  pub there : PlaysAreOf M N
  pub back : PlaysAreOf N M
