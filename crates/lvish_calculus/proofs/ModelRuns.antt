-- What the definitions of the laws say of worked runs.
use Rattle.std.proofs.Common.{◌≡◌, ℕ, List, [], ◌∷◌, refl, sym, ap, subst, Option, length, arith, inl}
use Rattle.lvish_names.specs.Names.{Name, main, Handler, is_deep}
use Rattle.lvish_calculus.specs.Machine.{Machine, Fork, Add, Reply}
use Rattle.lvish_calculus.specs.Calculus.{State, Act, Hand, Running, Freezes, start, IsLive, is_live}
use Rattle.lvish_calculus.specs.Handing.{IsAmong, HandsWell, Introduces}
use Rattle.lvish_calculus.specs.Laws.{IsCrossed, FreezesAllBy, NeverErrs}
use Rattle.lvish_calculus.specs.Live.{HasLive}
use Rattle.lvish_calculus.specs.LeastModel.{LeavesNoFreeze, PlaysAgainst, IsMet, main_starts, after_put, after_get, after_fork, child_starts, after_add, handler_starts, after_freeze, after_pause}
use Rattle.lvish_calculus.specs.Examples.{Set, over_sets, copier, u, t, until_both, AreDisjointAfter, RunHandsWell, IsClosedAfter, EndsClosed, LateAt, forking, freezing, putting, main_done, writer_done, late, late_asks, late_goes, until_frozen, one_there, crossing, both_freeze, u_first, HandingAt, handing, in_put_order, until_added, until_three_put, one_twice, t_freezing}
use Rattle.lvish_calculus.specs.BlockedExamples.{over_counters, level_functions, level_run}
use Rattle.lvish_calculus.proofs.Sound.{some_is}
use Rattle.lvish_calculus.proofs.LawfulRuns.{crossing_lawful, levels_lawful, level_asks_no_freeze}
use Rattle.lvish_calculus.proofs.HandingRuns.{in_put_order_ends, handing_lawful, three_copied, one_copied, level_ends, not_one}
use Rattle.lvish_calculus.proofs.WorkedRuns.{quiet, asks_it}
use Rattle.lvish_calculus.proofs.FreezeOrder.{crossed_by_order}
use Rattle.lvish_calculus.proofs.Runs.{no_late_error}
use Rattle.lvish_calculus.proofs.Handing.{handing_kept}
use Rattle.lvish_calculus.proofs.ClosedEnds.{ends_are_closed}

-- runs with one order don't cross
pub uncrossed : IsCrossed (over_sets crossing) u_first both_freeze → ⊥
uncrossed z = (crossed_by_order (over_sets crossing) crossing_lawful u_first both_freeze).0 z (inl ([], refl))

none_among : {E : Type 0} (t : Name E) (names : List (Name E)) → length names ≡ 0 → IsAmong t names → ⊥
none_among t [] e h = h
none_among t (u ∷ us) e h = absurd (omega arith)

-- where no task is left, none is left at a freeze
pub none_left : {S E R A L : Type 0} (M : Machine S E R A L) (c : State S E L) → HasLive c 0 → LeavesNoFreeze M c
none_left M c none t l f a p v pools is q = absurd (none_among t none.names none.count ((none.just t).1 (subst (λ k. IsLive k) (sym is) is_live)))

pub in_put_order_closed : EndsClosed handing in_put_order
in_put_order_closed =
    let r = in_put_order_ends in
    record { last = r.last; reached = r.reached; closed = ends_are_closed (over_sets handing) handing_lawful in_put_order r.last r.reached r.ended (none_left (over_sets handing) r.last r.none_left) }

-- ---- crossing

-- the freezes of u and of t are of different variables
pub freezes_disjoint : AreDisjointAfter crossing until_both u t
freezes_disjoint = record { there = _; reached = (tt, (tt, (tt, refl))); disjoint = λ v x y. absurd (omega (arith, some_is x, some_is y)) }

-- t's freeze isn't asked for by u
pub two_ask : FreezesAllBy (over_sets crossing) u (Running (start (over_sets crossing))) u_first → ⊥
two_ask by =
    let mine : Act t ≡ Act u = by.1.1.1.1.1.1.0 1 (record { task = t; local = t_freezing; forks = 0; adds = 0; puts = 0; pools = []; label = refl; is = refl; asked = refl }) in
    cc mine

-- ---- a late put

-- main alone forks
abbrev IsMainAt : Name ℕ → LateAt → Type 0
IsMainAt t forking = t ≡ main
IsMainAt t l = Unit {0}

goes_on : (t : Name ℕ) (l : LateAt) (r : Reply Set ℕ) → IsMainAt t (late_goes l r)
goes_on t forking r = tt {0}
goes_on t freezing r = tt {0}
goes_on t putting r = tt {0}
goes_on t main_done r = tt {0}
goes_on t writer_done r = tt {0}

forked_puts : (t : Name ℕ) (l k : LateAt) → late_asks l ≡ Fork k → IsMainAt t k
forked_puts t forking k q = let same : putting ≡ k = cc in subst (λ x. IsMainAt t x) same (tt {0})
forked_puts t l k q = absurd (cc q)

no_add : (l : LateAt) (pool procedure : ℕ) → late_asks l ≡ Add pool procedure → ⊥
no_add forking pool procedure q = cc q
no_add l pool procedure q = cc q

main_forks : {F : ℕ → Option Set} {t : Name ℕ} {l : LateAt} {f a : ℕ} → PlaysAgainst (over_sets late) one_there F t l f a → IsMainAt t l
main_forks main_starts = refl {0}
main_forks (after_put {t = t} {l = l} v d play q) = goes_on t l _
main_forks (after_get {t = t} {l = l} v r s x play q seen e) = goes_on t l _
main_forks (after_fork {t = t} {l = l} k play q) = goes_on t l _
main_forks (child_starts {l = l} k play q) = forked_puts _ l k q
main_forks (after_add {t = t} {l = l} pool procedure play q) = goes_on t l _
main_forks (handler_starts {l = l} pool procedure v s e play q of seen below) = absurd (no_add l pool procedure q)
main_forks (after_freeze {t = t} {l = l} v pools s play q seen) = goes_on t l _
main_forks (after_pause {t = t} {l = l} play q) = goes_on t l _

one_is_met : (t : Name ℕ) (l : LateAt) → IsMainAt t l → IsMet (over_sets late) one_there t (late_asks l)
one_is_met t forking m = ap is_deep m
one_is_met t putting m = refl {0}
one_is_met t freezing m = tt {0}
one_is_met t main_done m = tt {0}
one_is_met t writer_done m = tt {0}

pub one_is_model : IsClosedAfter late until_frozen one_there
one_is_model = record { there = _; reached = (tt, (quiet _ _ 0 (λ h. refl), refl)); closed = λ t l f a play. one_is_met t l (main_forks play) }

-- ---- handing

-- a handing is no freeze
no_freeze : {c : State Set ℕ HandingAt} {h : Handler ℕ} {e v : ℕ} {X : Type 0} → Freezes (over_sets handing) c (Hand h e) v → X
no_freeze z = let w : Hand _ _ ≡ Act z.task = z.label in absurd (cc w)

pub main_freezes : FreezesAllBy (over_sets handing) main (Running (start (over_sets handing))) in_put_order
main_freezes = (
  λ v z. refl,
  (
    λ v z. refl,
    (
      λ v z. refl,
      (
        λ v z. no_freeze z,
        (
          λ v z. let w = (asks_it _ _ three_copied _ _ _ _ v refl z).1 in absurd (cc w),
          (
            λ v z. let w = (asks_it _ _ three_copied _ _ _ _ v refl z).1 in absurd (cc w),
            (
              λ v z. no_freeze z,
              (
                λ v z. let w = (asks_it _ _ one_copied _ _ _ _ v refl z).1 in absurd (cc w),
                (λ v z. let w = (asks_it _ _ one_copied _ _ _ _ v refl z).1 in absurd (cc w), (λ v z. refl, (λ v z. refl, tt))),
              ),
            ),
          ),
        ),
      ),
    ),
  ),
)

pub introduces_three : Introduces (over_sets handing) until_added main 0 3
introduces_three = record { before = _; after = _; reaches_before = (tt, refl); reaches_after = (tt, (tt, refl)); new = λ z. absurd (omega (arith, z.1)); below = (0, omega arith, refl) }

pub introduces_one : Introduces (over_sets handing) until_three_put main 0 1
introduces_one = record { before = _; after = _; reaches_before = (tt, (tt, refl)); reaches_after = (tt, (tt, (tt, refl))); new = not_one; below = (0, omega arith, refl) }

pub hands_well : RunHandsWell handing in_put_order
hands_well = let r = in_put_order_ends in record { last = r.last; reached = r.reached; well = handing_kept (over_sets handing) handing_lawful in_put_order (Running r.last) r.reached }

pub twice_is_not_well : (d : State Set ℕ HandingAt) → HandsWell (over_sets handing) one_twice d → ⊥
twice_is_not_well d well = (well.once copier).0 (inl refl)

-- ---- levels

pub levels_never_err : NeverErrs (over_counters level_functions)
levels_never_err = let r = level_ends in (no_late_error (over_counters level_functions) levels_lawful level_asks_no_freeze level_run r.last r.reached r.ended).0
