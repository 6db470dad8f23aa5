-- A program that counts down in a set. A task is at a numbered place of its procedure, with a number.
use Rattle.std.proofs.Common.{◌≡◌, ℕ, zero, suc, ◌+◌, ℤ, pos, negsuc, ◌<◌, Bool, true, false, nat_eq, nat_lt, [], ◌∷◌, Option, Some, None, refl, sym, ap, subst, arith, IsSome, Contains}
use Rattle.std.specs.Prelude.{if◌then◌else◌}
use borrow.Author.Tests.{eqb-true}
use Rattle.std.specs.declared.cmp.Ord as ord
use Rattle.std.specs.declared.cmp.PartialEq as partial_eq
use Rattle.std.specs.declared.cmp.PartialOrd as partial_ord
use Rattle.lvish_lattice.specs.Ascending.{one_rises}
use Rattle.lvish_lattice.specs.GrowSet.{set_with}
use Rattle.lvish_lattice.specs.Lattice.{IsIdentity, IsChecked}
use Rattle.lvish_lattice.specs.declared.grow_set.GrowSet.{GrowSet}
use Rattle.lvish_calculus.specs.declared.request.Request.{Request}
use Rattle.lvish_calculus.specs.declared.request.Request.TheVariants.{Put, Get, Fork, Add, Freeze, End}
use Rattle.lvish_calculus.specs.Program.{Functions, IsProgram}
use Rattle.lvish_run_tests.specs.declared.native.Countdown.{Countdown}

-- a place, and a number
abbrev pub At : Type 0
At = ℕ × ℤ

-- the set of one element
abbrev pub only : {V : Type 0} {o : ord.Ghosts V} {e : partial_eq.Ghosts V} {p : partial_ord.Ghosts V} → V → GrowSet V o e p
only {o = o} x = set_with (x ∷ []) (one_rises o.cmp x)

-- the number below, where it isn't negative
abbrev pub lower_of : ℤ → Option ℤ
lower_of (pos (suc n)) = Some (pos n)
lower_of (pos zero) = None
lower_of (negsuc n) = None

-- a task goes on at the next place, up to 8, where it stays
abbrev pub gone_on : At → At
gone_on l = (if nat_lt l.0 8 then l.0 + 1 else l.0, l.1)

module _ {S R : Type 0} (only : ℤ → S) where
  -- a task puts the number, if there is one
  abbrev pub put_asks : Option ℤ → Request S R At
  put_asks None = End
  put_asks (Some n) = Put 0 (only n)

  -- main adds a handler, puts the first number, and freezes the set after the handler's tasks
  abbrev pub main_asks : ℤ → ℕ → Request S R At
  main_asks first place =
      if nat_eq place 0 then Add 0 0 else
      if nat_eq place 1 then Put 0 (only first) else
      if nat_eq place 2 then Freeze 0 (0 ∷ []) else End

  -- a handler's task puts at 5 the number below its own, and forks a task at 6
  abbrev pub countdown_asks : ℤ → At → Request S R At
  countdown_asks first l =
      if nat_eq l.0 5 then put_asks (lower_of l.1) else
      if nat_eq l.0 6 then Fork (7, l.1) else main_asks first l.0

-- one set, and a pool on it
abbrev pub countdown : {S R A : Type 0} → (ℤ → S) → ℤ → Functions S ℤ R A At
countdown only first = record {
  variables = 1;
  pool_variable = λ k. if nat_eq k 0 then Some 0 else None;
  start = (0, pos 0);
  start_handler = λ procedure event. (5, event);
  request = countdown_asks only first;
  at = λ l. l;
  resume = λ l reply. gone_on l;
}

-- some countdown
pub no_countdown : Countdown
no_countdown = record { first = pos 0; grain = 0 }

-- ---- its laws

pub nat_identical : IsIdentity nat_eq
nat_identical x y e = eqb-true x y e

-- the first variable, where a test of the pool says so
abbrev first_where : Bool → Option ℕ
first_where b = if b then Some 0 else None

abbrev only_pool : ℕ → Option ℕ
only_pool k = first_where (nat_eq k 0)

pool_known : (k v : ℕ) → only_pool k ≡ Some v → v < 1
pool_known k v e = by (nat_eq k 0) e
  where
    by : (b : Bool) → first_where b ≡ Some v → v < 1
    by true e = let same : 0 ≡ v = cc in omega arith
    by false e = absurd cc

pools_in_a_row : (j k : ℕ) → j < k → IsSome (only_pool k) → IsSome (only_pool j)
pools_in_a_row j k h some = by (nat_eq k 0) refl some
  where
    by : (b : Bool) → nat_eq k 0 ≡ b → IsSome (first_where b) → IsSome (only_pool j)
    by true e there = absurd (omega (arith, eqb-true k 0 e, h))
    by false e there = absurd cc

first_contained : (k : ℕ) → Contains (0 ∷ []) k → only_pool k ≡ Some 0
first_contained k (zero, w, is) = ap only_pool (sym is)
first_contained k (suc i, w, is) = absurd (omega arith)

module _ {S R A : Type 0} (join : S → S → Option S) (member : R → S → A → Type 0) (only : ℤ → S) (first : ℤ) where
  abbrev f : Functions S ℤ R A At
  f = countdown only first

  -- a request names what exists
  abbrev NamesThere : Request S R At → Type 0
  NamesThere (Put v d) = v < 1
  NamesThere (Get v r) = (v < 1) × IsChecked join (member r)
  NamesThere (Add k p) = (v : ℕ) × (only_pool k ≡ Some v)
  NamesThere (Freeze v ps) = (v < 1) × ((k : ℕ) → Contains ps k → only_pool k ≡ Some v)
  NamesThere r = Unit {0}

  either : (b : Bool) (x y : Request S R At) → NamesThere x → NamesThere y → NamesThere (if b then x else y)
  either true x y this other = this
  either false x y this other = other

  put_there : (o : Option ℤ) → NamesThere (put_asks only o)
  put_there None = tt
  put_there (Some n) = omega arith

  all_there : (l : At) → NamesThere (f.request l)
  all_there l =
      either (nat_eq l.0 5) _ _ (put_there (lower_of l.1))
      (either (nat_eq l.0 6) _ _ tt
      (either (nat_eq l.0 0) _ _ (0, refl)
      (either (nat_eq l.0 1) _ _ (omega arith)
      (either (nat_eq l.0 2) _ _ (omega arith, first_contained) tt))))

  pub countdown_is_program : IsProgram join member f
  countdown_is_program = record {
    known = pool_known;
    in_a_row = pools_in_a_row;
    puts = λ l v d e. subst NamesThere e (all_there l);
    gets = λ l v r e. subst NamesThere e (all_there l);
    adds = λ l k p e. subst NamesThere e (all_there l);
    freezes = λ l v ps e. subst NamesThere e (all_there l);
    repeats = λ l. refl;
  }
