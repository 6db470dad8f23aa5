-- Worked runs, computed.
use Rattle.std.proofs.Common.{◌≡◌, ◌↔◌, ℕ, Bool, true, false, List, [], Some, None, refl, sym, subst, ap, ◌∙◌, arith, inl, inr, nat_eq, Option, ◌∷◌, ◌++◌, Contains}
use Rattle.std.proofs.lemmas.Grind.{common_steps}
use Rattle.lvish_calculus.specs.Machine.{Machine, IsBelow, Freeze, ErrorKind, Deep}
use Rattle.lvish_calculus.specs.Calculus.{State, Running, Label, Act, Hand, Task, Live, Absent, Ended, IsLive, IsQuiescent, IsToHand, IsEnd, IsReadyTask, Freezes, start, Configuration, Error, IsRun, step, after, task_effect, IsDoomed, IsDoomedRequest}
use Rattle.lvish_names.specs.Names.{Name, main, Handler, same_name}
use Rattle.lvish_calculus.specs.Laws.{IsCrossed}
use Rattle.lvish_calculus.specs.Live.{HasLive}
use Rattle.lvish_calculus.specs.Program.{Functions}
use Rattle.lvish_calculus.specs.Examples.{Set, over_sets, LeadsTo, EndsAs, shown, crossing, u_first, t_first, u_first_end, t_first_end, u, t, u_freezing, t_freezing, late, put_first, put_first_end, writer}
use Rattle.lvish_calculus.specs.ErrorExamples.{IsDoomedAfter, IsUndoomedAfter, over_cells, two_numbers, putting_one, putting_two, one_writer, until_two, MeetsError, ChainAt, forking, done, chain, nested, forks_from, late_handler, adder, add_first, add_first_end}
use Rattle.lvish_calculus.specs.BlockedExamples.{until_fork}
use Rattle.lvish_calculus.proofs.Blocked.{live_ready}
use Rattle.lvish_calculus.proofs.Names.{cases_name, same_name-other, nat_eq-true, nat_eq-refl}

-- without a handler, a freeze that names no pools is quiet
pub quiet : {S E R A L : Type 0} (M : Machine S E R A L) (c : State S E L) (v : ℕ) → ((h : Handler E) → c.handlers h ≡ None) → IsQuiescent M c v []
quiet M c v none = record { drained = λ h e on below. absurd (cc (sym on.is ∙ none h)); ended = λ t i live. let z = i.listed in absurd (omega (arith, z.1)) }

-- an event below the variable's state is to be handed to a handler on it
pub to_hand : {S R A L : Type 0} {M : Machine S ℕ R A L} {c : State S ℕ L} {h : Handler ℕ} {e : ℕ} (v pool procedure : ℕ) → c.handlers h ≡ Some (record { pool = pool; procedure = procedure }) → M.pool_variable pool ≡ Some v
    → IsBelow M e (c.content v) → c.handed h e ≡ false → IsToHand M c h e
to_hand v pool procedure is of below not_handed = record { variable = v; on = record { post = record { pool = pool; procedure = procedure }; is = is; of = of }; below = below; not_handed = not_handed }

pub nat_same : (a b : ℕ) → (nat_eq a b ≡ true) ↔ (a ≡ b)
nat_same a b = (nat_eq-true a b, λ e. subst (λ x. nat_eq a x ≡ true) e (nat_eq-refl a))

-- what holds of these three names, and of each other one, holds of all
pub by_names : (x y z : Name ℕ) (P : Name ℕ → Type 0) → P x → P y → P z
    → ((n : Name ℕ) → same_name nat_eq n x ≡ false → same_name nat_eq n y ≡ false → same_name nat_eq n z ≡ false → P n) → (n : Name ℕ) → P n
by_names x y z P px py pz others n = elim (cases_name nat_eq nat_same n x) [
  | inl e ↦ subst P (sym e) px
  | inr a ↦ elim (cases_name nat_eq nat_same n y) [
    | inl e ↦ subst P (sym e) py
    | inr b ↦ elim (cases_name nat_eq nat_same n z) [
      | inl e ↦ subst P (sym e) pz
      | inr c ↦ others n (same_name-other nat_eq nat_same n x a) (same_name-other nat_eq nat_same n y b) (same_name-other nat_eq nat_same n z c)
    ]
  ]
]

pub ended_dead : {L : Type 0} (k : Task L) → k ≡ Ended → IsLive k → ⊥
ended_dead k e x = elim (subst (λ z. IsLive z) e x) [ ]

pub absent_dead : {L : Type 0} (k : Task L) → k ≡ Absent → IsLive k → ⊥
absent_dead k e x = elim (subst (λ z. IsLive z) e x) [ ]

-- a configuration in which these three tasks have ended, and there is no other
pub record IsOver {S L : Type 0} (c : State S ℕ L) (x y z : Name ℕ) : Type 0 where
  pub first : c.tasks x ≡ Ended
  pub second : c.tasks y ≡ Ended
  pub third : c.tasks z ≡ Ended
  pub others : (n : Name ℕ) → same_name nat_eq n x ≡ false → same_name nat_eq n y ≡ false → same_name nat_eq n z ≡ false → c.tasks n ≡ Absent

all_dead : {S L : Type 0} (c : State S ℕ L) (x y z : Name ℕ) → IsOver c x y z → (n : Name ℕ) → IsLive (c.tasks n) → ⊥
all_dead c x y z over = by_names x y z (λ n. IsLive (c.tasks n) → ⊥) (ended_dead _ over.first) (ended_dead _ over.second) (ended_dead _ over.third)
    (λ n p q r. absent_dead _ (over.others n p q r))

pub none_live : {S L : Type 0} (c : State S ℕ L) (x y z : Name ℕ) → IsOver c x y z → HasLive c 0
none_live c x y z over = record { names = []; once = tt; just = λ n. ((λ w. absurd w), all_dead c x y z over n); count = refl }

-- with nothing left to be handed it is an end
pub is_end : {S R A L : Type 0} (M : Machine S ℕ R A L) (c : State S ℕ L) (x y z : Name ℕ) → IsOver c x y z → ((h : Handler ℕ) (e : ℕ) → IsToHand M c h e → ⊥) → IsEnd M c
is_end M c x y z over drained (Act n) en = all_dead c x y z over n (live_ready M c (c.tasks n) en)
is_end M c x y z over drained (Hand h e) en = drained h e en

-- a run to such a configuration ends
pub ends : {L : Type 0} (f : Functions Set ℕ ℕ ℕ L) (run : List (Label ℕ)) (seen : List (List ℕ × Bool)) (x y z : Name ℕ) (c : State Set ℕ L) → LeadsTo f run (Running c)
    → IsOver c x y z → ((h : Handler ℕ) (e : ℕ) → IsToHand (over_sets f) c h e → ⊥) → shown c f.variables ≡ seen → EndsAs f run seen
ends f run seen x y z c way over drained are = record { last = c; reached = way; ended = is_end (over_sets f) c x y z over drained; none_left = none_live c x y z over; are = are }

-- nothing is handed where there is no handler
pub no_handler : {S R A L : Type 0} (M : Machine S ℕ R A L) (c : State S ℕ L) → ((h : Handler ℕ) → c.handlers h ≡ None) → (h : Handler ℕ) (e : ℕ) → IsToHand M c h e → ⊥
no_handler M c none h e hand = let on = hand.on in let z : Some on.post ≡ None = sym on.is ∙ none h in cc

pub u_first_ends : EndsAs crossing u_first u_first_end
u_first_ends = ends crossing _ _ main u t _ (tt, (tt, (tt, (quiet _ _ 0 (λ h. refl), (tt, (tt, (quiet _ _ 1 (λ h. refl), (tt, refl))))))))
    (record { first = refl; second = refl; third = refl; others = λ n a b c. simp (a, b, c) refl }) (no_handler (over_sets crossing) _ (λ h. refl)) refl

pub t_first_ends : EndsAs crossing t_first t_first_end
t_first_ends = ends crossing _ _ main u t _ (tt, (tt, (tt, (quiet _ _ 1 (λ h. refl), (tt, (tt, (quiet _ _ 0 (λ h. refl), (tt, refl))))))))
    (record { first = refl; second = refl; third = refl; others = λ n a b c. simp (a, b, c) refl }) (no_handler (over_sets crossing) _ (λ h. refl)) refl

pub put_first_ends : EndsAs late put_first put_first_end
put_first_ends = ends late _ _ main writer writer _ (tt, (tt, (quiet _ _ 0 (λ h. refl), (tt, (tt, refl)))))
    (record { first = refl; second = refl; third = refl; others = λ n a b c. simp (a, b) refl }) (no_handler (over_sets late) _ (λ h. refl)) refl

pub crossed : IsCrossed (over_sets crossing) u_first t_first
crossed = (
  0,
  1,
  (λ e. cc),
  inr (inr (inr (inl (record { task = u; local = u_freezing; forks = 0; adds = 0; puts = 0; pools = []; label = refl; is = refl; asked = refl }, refl)))),
  inr (inr (inr (inl (record { task = t; local = t_freezing; forks = 0; adds = 0; puts = 0; pools = []; label = refl; is = refl; asked = refl }, refl)))),
)

-- a task that freezes a variable asks for just that
pub asks_it : {S E R A L : Type 0} (M : Machine S E R A L) (c : State S E L) (n : Name E) (l : L) (f a p v : ℕ) → c.tasks n ≡ Live l f a p → Freezes M c (Act n) v
    → (pools : List ℕ) × (M.request l ≡ Freeze v pools)
asks_it M c n l f a p v is z =
    let label : Act n ≡ Act z.task = z.label in
    let same : n ≡ z.task = cc in
    let there : Live l f a p ≡ Live z.local z.forks z.adds z.puts = sym is ∙ ap c.tasks same ∙ z.is in
    let local : l ≡ z.local = cc in
    (z.pools, ap M.request local ∙ z.asked)

-- ---- a conflict

-- no task is at a step that is an error, where those that are there are these two and neither is
module _ {S R A L : Type 0} (M : Machine S ℕ R A L) (c : State S ℕ L) (x y : Name ℕ) (l k : L) (f a p : ℕ)
    (first : c.tasks x ≡ Live l f a p) (second : c.tasks y ≡ Live k 0 0 0)
    (others : (n : Name ℕ) → same_name nat_eq n x ≡ false → same_name nat_eq n y ≡ false → c.tasks n ≡ Absent) where
  undoomed : (IsDoomedRequest M c x (M.request l) → ⊥) → (IsDoomedRequest M c y (M.request k) → ⊥) → IsDoomed M c → ⊥
  undoomed no_first no_second d = among d.task d.local d.forks d.adds d.puts d.is d.doomed
    where
      among : (n : Name ℕ) (o : L) (f2 a2 p2 : ℕ) → c.tasks n ≡ Live o f2 a2 p2 → IsDoomedRequest M c n (M.request o) → ⊥
      among = by_names x y y (λ n. (o : L) (f2 a2 p2 : ℕ) → c.tasks n ≡ Live o f2 a2 p2 → IsDoomedRequest M c n (M.request o) → ⊥)
          (λ o f2 a2 p2 is doom. let there : Live o f2 a2 p2 ≡ Live l f a p = sym is ∙ first in let same : o ≡ l = cc in no_first (subst (λ z. IsDoomedRequest M c x (M.request z)) same doom))
          (λ o f2 a2 p2 is doom. let there : Live o f2 a2 p2 ≡ Live k 0 0 0 = sym is ∙ second in let same : o ≡ k = cc in no_second (subst (λ z. IsDoomedRequest M c y (M.request z)) same doom))
          (λ o f2 a2 p2 is doom. let there : Live o f2 a2 p2 ≡ Live k 0 0 0 = sym is ∙ second in let same : o ≡ k = cc in no_second (subst (λ z. IsDoomedRequest M c y (M.request z)) same doom))
          (λ n q r s o f2 a2 p2 is doom. let there : Live o f2 a2 p2 ≡ Absent = sym is ∙ others n q r in cc)

pub undoomed_after_fork : IsUndoomedAfter (over_cells two_numbers) until_fork
undoomed_after_fork = record {
  there = _;
  reached = (tt, refl);
  undoomed = undoomed (over_cells two_numbers) _ main one_writer putting_two putting_one 1 0 0 refl refl (λ n a b. simp (a, b) refl)
      (λ z. elim z [ inl e ↦ let w : ⊥ = cc in absurd w | inr e ↦ let w : false ≡ true = e.2 in absurd cc ])
      (λ z. elim z [ inl e ↦ let w : ⊥ = cc in absurd w | inr e ↦ let w : false ≡ true = e.2 in absurd cc ]);
}

pub doomed_after_two : IsDoomedAfter (over_cells two_numbers) until_two
doomed_after_two = record {
  there = _;
  reached = (tt, (tt, refl));
  doomed = record { task = one_writer; local = putting_one; forks = 0; adds = 0; puts = 0; is = refl; doomed = inl refl };
}

-- ---- a late handler

-- nothing is below an empty set
nothing_there : {e : ℕ} → Contains [] e → ⊥
nothing_there z = absurd (omega (arith, z.1))

pub add_first_ends : EndsAs late_handler add_first add_first_end
add_first_ends = ends late_handler _ _ main adder adder _
    (tt, (tt, (record { drained = λ h e on below. absurd (nothing_there below); ended = λ t i live. absurd (nothing_there i.listed) }, (tt, (tt, refl)))))
    (record { first = refl; second = refl; third = refl; others = λ n a b c. simp (a, b) refl })
    (λ h e hand. nothing_there hand.below)
    refl

-- ---- a chain

pub chain_ends : MeetsError (over_sets chain) (forks_from 0 65) Deep None (nested 64)
chain_ends = grind (arith, common_steps)

-- a run that meets an error is a run without one, and a step
module _ {S E R A L : Type 0} (M : Machine S E R A L) (kind : ErrorKind) (v : Option ℕ) (t : Name E) (last : Label E) where
  cut : (ls : List (Label E)) (d : Configuration S E L) → IsRun M d (ls ++ last ∷ []) (Error kind v t)
      → (c : State S E L) × IsRun M d ls (Running c) × IsRun M (Running c) (last ∷ []) (Error kind v t)
  cut [] (Running c) run = (c, refl, run)
  cut [] (Error k w u) run = absurd run
  cut (l ∷ ls) (Running c) run = let z = cut ls (step M c l) run.1 in (z.0, (run.0, z.1), z.2)
  cut (l ∷ ls) (Error k w u) run = absurd run

-- where the task's step is the error, its fork is doomed
doomed_fork : (c : State Set ℕ ChainAt) (k : Task ChainAt) → c.tasks (nested 64) ≡ k → IsReadyTask (over_sets chain) c k
    → after (over_sets chain) c (task_effect (over_sets chain) c (nested 64) k) ≡ Error Deep None (nested 64) → IsDoomed (over_sets chain) c
doomed_fork c Absent is ready e = absurd ready
doomed_fork c Ended is ready e = absurd ready
doomed_fork c (Live forking f a p) is ready e = record { task = nested 64; local = forking; forks = f; adds = a; puts = p; is = is; doomed = refl }
doomed_fork c (Live done f a p) is ready e = absurd cc

pub doomed_at_64 : IsDoomedAfter (over_sets chain) (forks_from 0 64)
doomed_at_64 =
    let z = cut (over_sets chain) Deep None (nested 64) (Act (nested 64)) (forks_from 0 64) (Running (start (over_sets chain))) chain_ends in
    record { there = z.0; reached = z.1; doomed = doomed_fork z.0 _ refl (z.2).0 (z.2).1 }
