-- The runs of the examples of handing and of waiting, computed.
use Rattle.std.proofs.Common.{◌≡◌, ◌⊎◌, ℕ, zero, suc, true, false, ◌||◌, List, [], ◌∷◌, ◌++◌, Some, None, refl, sym, subst, ap, ◌∙◌, arith, inl, inr, nat_eq, Contains}
use Rattle.std.proofs.lemmas.Bool.{cases_Bool, both_ways}
use Rattle.std.proofs.lemmas.Map.Views.{list_any-from_Contains}
use Rattle.std.specs.Cmp.{nat_eq_equiv}
use Rattle.std.specs.Ordering.{nat_cmp, is_le}
use Rattle.lvish_calculus.specs.Machine.{IsLawful, Freeze, Add}
use Rattle.lvish_calculus.specs.Calculus.{State, Label, Hand, Post, Act, IsLive, IsOn, IsQuiescent, IsToHand, Ended, Absent, is_live}
use Rattle.lvish_names.specs.Names.{Name, main, handed, Handler, same_name, same_handler, handler_of}
use Rattle.lvish_calculus.specs.Laws.{Reaches}
use Rattle.lvish_calculus.specs.Handing.{HandsOldestFirst, IsNoLater}
use Rattle.lvish_calculus.specs.Examples.{Set, over_sets, EndsAs, numbers, HandingAt, adding, freezing, handing_asks, handing_pool, handing, copier, in_put_order, one_first, handing_end}
use Rattle.lvish_calculus.specs.BlockedExamples.{IsBlockedAfter, IsEnabledAfter, EndsHolding, over_counters, LevelAt, level_functions, reader, until_fork, until_one, until_three, level_run, three_and_two, one_unhanded, one_running, both_copied, NestingAt, nesting, nesting_pool, the_outer, both_pools, outer_task, inner_task, outer, inner, outer_running, inner_running, inner_ended, frozen_before, frozen_after, nesting_end}
use Rattle.lvish_calculus.proofs.Names.{cases_handler, same_handler-other, nat_eq-true}
use Rattle.lvish_calculus.proofs.Sound.{some_is}
use Rattle.lvish_calculus.proofs.CoreRuns.{no_later_one, no_later_new, core_none, core_acts, core_hand}
use Rattle.lvish_calculus.proofs.FromTraits.{sets_lawful}
use Rattle.lvish_calculus.proofs.WorkedRuns.{by_names, nat_same, ended_dead, absent_dead, to_hand, ends, IsOver, is_end, none_live, no_handler}

abbrev pub three_copied : Name ℕ
three_copied = handed main 1 3

abbrev pub one_copied : Name ℕ
one_copied = handed main 1 1

-- of s, which has 1 and 3, the one handler was handed both
pub record IsDrained (c : State Set ℕ HandingAt) : Type 0 where
  pub content : numbers (c.content 0) ≡ 1 ∷ 3 ∷ []
  pub is : c.handlers copier ≡ Some (record { pool = 0; procedure = 0 })
  pub others : (h : Handler ℕ) → same_handler nat_eq h copier ≡ false → c.handlers h ≡ None
  pub one : c.handed copier 1 ≡ true
  pub three : c.handed copier 3 ≡ true

one_or_three : (e : ℕ) → Contains (1 ∷ 3 ∷ []) e → (e ≡ 1) ⊎ (e ≡ 3)
one_or_three e z = elim (cases_Bool (nat_eq e 1)) [
  | inl a ↦ inl (nat_eq-true e 1 a)
  | inr a ↦ elim (cases_Bool (nat_eq e 3)) [
    | inl b ↦ inr (nat_eq-true e 3 b)
    | inr b ↦ let w : nat_eq e 1 || (nat_eq e 3 || false) ≡ true = list_any-from_Contains nat_eq_equiv e (1 ∷ 3 ∷ []) z in absurd (both_ways _ (simp (a, b) refl) w)
  ]
]

each_handed : (c : State Set ℕ HandingAt) → IsDrained c → (h : Handler ℕ) (e v : ℕ) → IsOn (over_sets handing) c h v → Contains (numbers (c.content v)) e → c.handed h e ≡ true
each_handed c d h e v on below = elim (cases_handler nat_eq nat_same h copier) [
  | inr ne ↦ let z : Some on.post ≡ None = sym on.is ∙ d.others h (same_handler-other nat_eq nat_same h copier ne) in cc
  | inl here ↦
      let pool : on.post.pool ≡ 0 = ap (λ (p : Post). p.pool) (some_is (sym on.is ∙ ap c.handlers here ∙ d.is)) in
      let v_is : 0 ≡ v = some_is (subst (λ p. handing.pool_variable p ≡ Some v) pool on.of) in
      let e_is : (e ≡ 1) ⊎ (e ≡ 3) = one_or_three e (subst (λ xs. Contains xs e) d.content (subst (λ w. Contains (numbers (c.content w)) e) (sym v_is) below)) in
      subst (λ k. c.handed k e ≡ true) (sym here) (elim e_is [
        | inl z ↦ subst (λ x. c.handed copier x ≡ true) (sym z) d.one
        | inr z ↦ subst (λ x. c.handed copier x ≡ true) (sym z) d.three
      ])
]

nothing_to_hand : (c : State Set ℕ HandingAt) → IsDrained c → (h : Handler ℕ) (e : ℕ) → IsToHand (over_sets handing) c h e → ⊥
nothing_to_hand c d h e hand = both_ways _ hand.not_handed (each_handed c d h e hand.variable hand.on hand.below)

-- s may be frozen after the handler's tasks
pub can_freeze : (c : State Set ℕ HandingAt) → IsDrained c → c.tasks three_copied ≡ Ended → c.tasks one_copied ≡ Ended
    → ((n : Name ℕ) → same_name nat_eq n main ≡ false → same_name nat_eq n three_copied ≡ false → same_name nat_eq n one_copied ≡ false → c.tasks n ≡ Absent)
    → IsQuiescent (over_sets handing) c 0 (0 ∷ [])
can_freeze c d three one others = record {
  drained = λ h e on below. each_handed c d h e 0 on below;
  ended = λ n in_pool. dead n in_pool.handler in_pool.of;
}
  where
    dead : (n : Name ℕ) (h : Handler ℕ) → handler_of n ≡ Some h → IsLive (c.tasks n) → ⊥
    dead = by_names main three_copied one_copied (λ n. (h : Handler ℕ) → handler_of n ≡ Some h → IsLive (c.tasks n) → ⊥)
        (λ h e live. let z : ⊥ = cc in absurd z) (λ h e. ended_dead _ three) (λ h e. ended_dead _ one) (λ n p q r h e. absent_dead _ (others n p q r))

pub in_put_order_ends : EndsAs handing in_put_order handing_end
in_put_order_ends = ends handing _ _ main three_copied one_copied _
    (tt, (tt, (tt, (to_hand 0 0 0 refl refl (1, omega arith, refl) refl, (tt, (tt, (to_hand 0 0 0 refl refl (0, omega arith, refl) refl, (tt, (tt, (can_freeze _ (record { content = refl; is = refl; others = λ h z. simp z refl; one = refl; three = refl }) refl refl (λ n a b c. simp (a, b, c) refl), (tt, refl)))))))))))
    (record { first = refl; second = refl; third = refl; others = λ n a b c. simp (a, b, c) refl })
    (nothing_to_hand _ (record { content = refl; is = refl; others = λ h z. simp z refl; one = refl; three = refl }))
    refl

pub one_first_ends : EndsAs handing one_first handing_end
one_first_ends = ends handing _ _ main three_copied one_copied _
    (tt, (tt, (tt, (to_hand 0 0 0 refl refl (0, omega arith, refl) refl, (tt, (tt, (to_hand 0 0 0 refl refl (1, omega arith, refl) refl, (tt, (tt, (can_freeze _ (record { content = refl; is = refl; others = λ h z. simp z refl; one = refl; three = refl }) refl refl (λ n a b c. simp (a, b, c) refl), (tt, refl)))))))))))
    (record { first = refl; second = refl; third = refl; others = λ n a b c. simp (a, b, c) refl })
    (nothing_to_hand _ (record { content = refl; is = refl; others = λ h z. simp z refl; one = refl; three = refl }))
    refl

pub not_one : Contains {X = ℕ} (3 ∷ []) 1 → ⊥
not_one one = both_ways _ refl (list_any-from_Contains nat_eq_equiv 1 (3 ∷ []) one)

pub not_core : HandsOldestFirst (over_sets handing) one_first → ⊥
not_core core =
    let first = core (Act main ∷ Act main ∷ Act main ∷ []) _ copier 1 refl _ (tt, (tt, (tt, refl))) 0 (record { post = record { pool = 0; procedure = 0 }; is = refl; of = refl }) 3 (1, omega arith, refl) refl in
    absurd (not_one (first.0 (Act main ∷ Act main ∷ []) (Act main ∷ []) _ refl (tt, (tt, refl)) (0, omega arith, refl)))

freezes_own : (l : HandingAt) (v : ℕ) (pools : List ℕ) → handing_asks l ≡ Freeze v pools → (p : ℕ) → Contains pools p → handing_pool p ≡ Some v
freezes_own freezing v pools e p z = of_s v (cc) p (subst (λ q. Contains q p) (let ps : 0 ∷ [] ≡ pools = cc in sym ps) z)
  where
    of_s : (v : ℕ) → 0 ≡ v → (p : ℕ) → Contains (0 ∷ []) p → handing_pool p ≡ Some v
    of_s v vv p (zero, lt, e) = ap handing_pool (sym e) ∙ ap Some vv
    of_s v vv p (suc k, lt, e) = absurd (omega (arith, lt))
freezes_own l v pools e p z = absurd (cc e)

adds_known : (l : HandingAt) (p proc : ℕ) → handing_asks l ≡ Add p proc → (v : ℕ) × (handing_pool p ≡ Some v)
adds_known adding p proc e = let pp : 0 ≡ p = cc in (0, ap handing_pool (sym pp))
adds_known l p proc e = absurd (cc e)

pub handing_lawful : IsLawful (over_sets handing)
handing_lawful = sets_lawful handing freezes_own adds_known

-- e came to s no later than x, and is the lesser if they came at once
abbrev ComesFirst : List (Label ℕ) → ℕ → ℕ → Type 0
ComesFirst p e x = IsNoLater (over_sets handing) p 0 e x × (IsNoLater (over_sets handing) p 0 x e → (over_sets handing).event_le e x ≡ true)

itself_first : (p : List (Label ℕ)) (e x : ℕ) → x ≡ e → is_le (nat_cmp e e) ≡ true → ComesFirst p e x
itself_first p e x z le = subst (λ y. ComesFirst p e y) (sym z) (λ q r c eq reached there. there, λ no_later. le)

-- main has put 3, and then 1
abbrev put_both : List (Label ℕ)
put_both = Act main ∷ Act main ∷ Act main ∷ []

-- 3 came before 1
three_first : ComesFirst put_both 3 1
three_first =
    let put_three : List (Label ℕ) = Act main ∷ Act main ∷ [] in
    let new : IsNoLater (over_sets handing) put_three 0 3 1 = no_later_new (over_sets handing) handing_lawful put_three (Act main) _ _ (tt, (tt, refl)) (tt, (tt, (tt, refl))) 0 3 1 not_one in (
      no_later_one (over_sets handing) handing_lawful put_three (Act main) _ _ (tt, (tt, refl)) (tt, (tt, (tt, refl))) 0 3 1 new (1, omega arith, refl),
      λ no_later. absurd (not_one (no_later put_three (Act main ∷ []) _ refl (tt, (tt, refl)) (0, omega arith, refl))),
    )

abbrev three_handed : List (Label ℕ)
three_handed = Act main ∷ Act main ∷ Act main ∷ Hand copier 3 ∷ []

three_core : HandsOldestFirst (over_sets handing) three_handed
three_core = core_hand (over_sets handing) handing_lawful put_both _ copier 0 3 (tt, (tt, (tt, refl))) (record { post = record { pool = 0; procedure = 0 }; is = refl; of = refl })
    (record { first = λ x below not_handed. elim (one_or_three x below) [ inl z ↦ subst (λ y. ComesFirst put_both 3 y) (sym z) three_first | inr z ↦ itself_first put_both 3 x z refl ] })
    (core_acts (over_sets handing) handing_lawful [] (main ∷ main ∷ main ∷ []) (core_none (over_sets handing) handing_lawful))

-- once 3 was handed, 1 comes
one_core : (p : List (Label ℕ)) (c : State Set ℕ HandingAt) → Reaches (over_sets handing) p c → c.handlers copier ≡ Some (record { pool = 0; procedure = 0 }) → c.handed copier 3 ≡ true → numbers (c.content 0) ≡ 1 ∷ 3 ∷ []
    → HandsOldestFirst (over_sets handing) p → HandsOldestFirst (over_sets handing) (p ++ Hand copier 1 ∷ [])
one_core p c there handler three is = core_hand (over_sets handing) handing_lawful p c copier 0 1 there (record { post = record { pool = 0; procedure = 0 }; is = handler; of = refl }) (record {
  first = λ x below not_handed. elim (one_or_three x (subst (λ xs. Contains xs x) is below)) [
    | inl z ↦ itself_first p 1 x z refl
    | inr z ↦ absurd (both_ways _ (subst (λ y. c.handed copier y ≡ false) z not_handed) three)
  ];
})

abbrev three_done : List (Label ℕ)
three_done = Act main ∷ Act main ∷ Act main ∷ Hand copier 3 ∷ Act three_copied ∷ Act three_copied ∷ []

pub is_core : HandsOldestFirst (over_sets handing) in_put_order
is_core =
    let three = core_acts (over_sets handing) handing_lawful three_handed (three_copied ∷ three_copied ∷ []) three_core in
    let one : HandsOldestFirst (over_sets handing) (three_done ++ Hand copier 1 ∷ []) =
    one_core three_done _ (tt, (tt, (tt, (to_hand 0 0 0 refl refl (1, omega arith, refl) refl, (tt, (tt, refl)))))) refl refl refl three in
    core_acts (over_sets handing) handing_lawful (three_done ++ Hand copier 1 ∷ []) (one_copied ∷ one_copied ∷ main ∷ main ∷ []) one

-- ---- a get

pub blocked_at_none : IsBlockedAfter (over_counters level_functions) until_fork reader
blocked_at_none = record { there = _; reached = (tt, refl); live = is_live; waits = λ e. cc }

pub blocked_at_one : IsBlockedAfter (over_counters level_functions) until_one reader
blocked_at_one = record { there = _; reached = (tt, (tt, refl)); live = is_live; waits = λ e. cc }

pub enabled_at_three : IsEnabledAfter (over_counters level_functions) until_three reader
enabled_at_three = record { there = _; reached = (tt, (tt, (tt, refl))); enabled = refl }

level_runs : (c : State ℕ ℕ LevelAt) × Reaches (over_counters level_functions) level_run c
level_runs = (_, (tt, (tt, (tt, (refl, (tt, (tt, (tt, refl))))))))

level_over : IsOver (level_runs.0) main reader reader
unfolding level_runs
level_over = record { first = refl; second = refl; third = refl; others = λ n a b c. simp (a, b) refl }

pub level_ends : EndsHolding (over_counters level_functions) level_run three_and_two
unfolding level_runs
level_ends = record {
  last = _;
  reached = level_runs.1;
  ended = is_end (over_counters level_functions) _ main reader reader level_over (no_handler (over_counters level_functions) _ (λ h. refl));
  none_left = none_live _ main reader reader level_over;
  holds = refl;
}

-- ---- a freeze

pub blocked_unhanded : IsBlockedAfter (over_sets handing) one_unhanded main
blocked_unhanded = record {
  there = _;
  reached = (tt, (tt, (tt, (to_hand 0 0 0 refl refl (1, omega arith, refl) refl, (tt, (tt, refl))))));
  live = is_live;
  waits = λ q. let z = q.drained copier 1 (record { post = record { pool = 0; procedure = 0 }; is = refl; of = refl }) (0, omega arith, refl) in cc;
}

pub blocked_running : IsBlockedAfter (over_sets handing) one_running main
blocked_running = record {
  there = _;
  reached = (tt, (tt, (tt, (to_hand 0 0 0 refl refl (1, omega arith, refl) refl, (tt, (tt, (to_hand 0 0 0 refl refl (0, omega arith, refl) refl, (tt, refl))))))));
  live = is_live;
  waits = λ q. q.ended one_copied (record { handler = copier; of = refl; post = record { pool = 0; procedure = 0 }; is = refl; listed = (0, omega arith, refl) }) is_live;
}

pub enabled_copied : IsEnabledAfter (over_sets handing) both_copied main
enabled_copied = record {
  there = _;
  reached = (tt, (tt, (tt, (to_hand 0 0 0 refl refl (1, omega arith, refl) refl, (tt, (tt, (to_hand 0 0 0 refl refl (0, omega arith, refl) refl, (tt, (tt, refl)))))))));
  enabled = can_freeze _ (record { content = refl; is = refl; others = λ h z. simp z refl; one = refl; three = refl }) refl refl (λ n a b c. simp (a, b, c) refl);
}

-- ---- pools within pools

-- of s, which has 1 alone, both handlers were handed it; the outer one's task has ended, and the inner one's may be there
record IsNested (c : State Set ℕ NestingAt) : Type 0 where
  pub content : numbers (c.content 0) ≡ 1 ∷ []
  pub outer_is : c.handlers outer ≡ Some (record { pool = 0; procedure = 0 })
  pub inner_is : c.handlers inner ≡ Some (record { pool = 1; procedure = 1 })
  pub other_handlers : (h : Handler ℕ) → same_handler nat_eq h outer ≡ false → same_handler nat_eq h inner ≡ false → c.handlers h ≡ None
  pub outer_handed : c.handed outer 1 ≡ true
  pub inner_handed : c.handed inner 1 ≡ true

just_one : (e : ℕ) → Contains (1 ∷ []) e → e ≡ 1
just_one e z = elim (cases_Bool (nat_eq e 1)) [
  | inl a ↦ nat_eq-true e 1 a
  | inr a ↦ let w : nat_eq e 1 || false ≡ true = list_any-from_Contains nat_eq_equiv e (1 ∷ []) z in absurd (both_ways _ (simp a refl) w)
]

-- a handler in this pool, which is of s, was handed 1
handed_on : (pools : List ℕ) (c : State Set ℕ NestingAt) → IsNested c → (h : Handler ℕ) (p q : ℕ) → c.handlers h ≡ Some (record { pool = p; procedure = q }) → nesting_pool p ≡ Some 0 → c.handed h 1 ≡ true
    → (e v : ℕ) → IsOn (over_sets (nesting pools)) c h v → Contains (numbers (c.content v)) e → c.handed h e ≡ true
handed_on pools c d h p q is of given e v on below =
    let post : on.post ≡ record { pool = p; procedure = q } = some_is (sym on.is ∙ is) in
    let pool : on.post.pool ≡ p = ap (λ (x : Post). x.pool) post in
    let v_is : v ≡ 0 = some_is (sym on.of ∙ ap nesting_pool pool ∙ of) in
    let one : e ≡ 1 = just_one e (subst (λ xs. Contains xs e) d.content (subst (λ w. Contains (numbers (c.content w)) e) v_is below)) in
    subst (λ x. c.handed h x ≡ true) (sym one) given

all_handed : (pools : List ℕ) (c : State Set ℕ NestingAt) → IsNested c → (h : Handler ℕ) (e v : ℕ) → IsOn (over_sets (nesting pools)) c h v → Contains (numbers (c.content v)) e → c.handed h e ≡ true
all_handed pools c d h e v on below = elim (cases_handler nat_eq nat_same h outer) [
  | inl a ↦ handed_on pools c d h 0 0 (ap c.handlers a ∙ d.outer_is) refl (ap (λ k. c.handed k 1) a ∙ d.outer_handed) e v on below
  | inr a ↦ elim (cases_handler nat_eq nat_same h inner) [
    | inl b ↦ handed_on pools c d h 1 1 (ap c.handlers b ∙ d.inner_is) refl (ap (λ k. c.handed k 1) b ∙ d.inner_handed) e v on below
    | inr b ↦ let z : Some on.post ≡ None = sym on.is ∙ d.other_handlers h (same_handler-other nat_eq nat_same h outer a) (same_handler-other nat_eq nat_same h inner b) in cc
  ]
]

none_to_hand : (pools : List ℕ) (c : State Set ℕ NestingAt) → IsNested c → (h : Handler ℕ) (e : ℕ) → IsToHand (over_sets (nesting pools)) c h e → ⊥
none_to_hand pools c d h e hand = both_ways _ hand.not_handed (all_handed pools c d h e hand.variable hand.on hand.below)

-- s may be frozen where the inner task has ended, or its pool isn't named
can_freeze_nested : (pools : List ℕ) (c : State Set ℕ NestingAt) → IsNested c → c.tasks outer_task ≡ Ended → (Contains pools 1 → IsLive (c.tasks inner_task) → ⊥)
    → ((n : Name ℕ) → same_name nat_eq n main ≡ false → same_name nat_eq n outer_task ≡ false → same_name nat_eq n inner_task ≡ false → c.tasks n ≡ Absent)
    → IsQuiescent (over_sets (nesting pools)) c 0 pools
can_freeze_nested pools c d outer_ended inner_dead others = record {
  drained = λ h e on below. all_handed pools c d h e 0 on below;
  ended = λ n i. dead n i.handler i.post i.of i.is i.listed;
}
  where
    inner_listed : (h : Handler ℕ) (post : Post) → handler_of inner_task ≡ Some h → c.handlers h ≡ Some post → Contains pools post.pool → Contains pools 1
    inner_listed h post of is listed =
        let handler : inner ≡ h = some_is of in
        let same : post ≡ record { pool = 1; procedure = 1 } = some_is (sym is ∙ ap c.handlers (sym handler) ∙ d.inner_is) in
        subst (λ (x : Post). Contains pools x.pool) same listed

    dead : (n : Name ℕ) (h : Handler ℕ) (post : Post) → handler_of n ≡ Some h → c.handlers h ≡ Some post → Contains pools post.pool → IsLive (c.tasks n) → ⊥
    dead = by_names main outer_task inner_task (λ n. (h : Handler ℕ) (post : Post) → handler_of n ≡ Some h → c.handlers h ≡ Some post → Contains pools post.pool → IsLive (c.tasks n) → ⊥)
        (λ h post of is listed live. let z : ⊥ = cc in absurd z)
        (λ h post of is listed. ended_dead _ outer_ended)
        (λ h post of is listed. inner_dead (inner_listed h post of is listed))
        (λ n a b e h post of is listed. absent_dead _ (others n a b e))

not_the_outer : Contains the_outer 1 → ⊥
not_the_outer z = both_ways _ refl (list_any-from_Contains nat_eq_equiv 1 the_outer z)

pub blocked_outer : IsBlockedAfter (over_sets (nesting the_outer)) outer_running main
blocked_outer = record {
  there = _;
  reached = (tt, (tt, (to_hand 0 0 0 refl refl (0, omega arith, refl) refl, (tt, (to_hand 0 1 1 refl refl (0, omega arith, refl) refl, refl)))));
  live = is_live;
  waits = λ q. q.ended outer_task (record { handler = outer; of = refl; post = record { pool = 0; procedure = 0 }; is = refl; listed = (0, omega arith, refl) }) is_live;
}

inner_running_reached : (pools : List ℕ) → (c : State Set ℕ NestingAt) × Reaches (over_sets (nesting pools)) inner_running c
inner_running_reached pools = (_, (tt, (tt, (to_hand 0 0 0 refl refl (0, omega arith, refl) refl, (tt, (tt, (to_hand 0 1 1 refl refl (0, omega arith, refl) refl, refl)))))))

pub enabled_outer : IsEnabledAfter (over_sets (nesting the_outer)) inner_running main
unfolding inner_running_reached
enabled_outer = record {
  there = _;
  reached = (inner_running_reached the_outer).1;
  enabled = can_freeze_nested the_outer _ (record { content = refl; outer_is = refl; inner_is = refl; other_handlers = λ h a b. simp (a, b) refl; outer_handed = refl; inner_handed = refl }) refl (λ listed. absurd (not_the_outer listed)) (λ n a b c. simp (a, b, c) refl);
}

pub blocked_inner : IsBlockedAfter (over_sets (nesting both_pools)) inner_running main
unfolding inner_running_reached
blocked_inner = record {
  there = _;
  reached = (inner_running_reached both_pools).1;
  live = is_live;
  waits = λ q. q.ended inner_task (record { handler = inner; of = refl; post = record { pool = 1; procedure = 1 }; is = refl; listed = (1, omega arith, refl) }) is_live;
}

pub enabled_both : IsEnabledAfter (over_sets (nesting both_pools)) inner_ended main
enabled_both = record {
  there = _;
  reached = (tt, (tt, (to_hand 0 0 0 refl refl (0, omega arith, refl) refl, (tt, (tt, (to_hand 0 1 1 refl refl (0, omega arith, refl) refl, (tt, (tt, refl))))))));
  enabled = can_freeze_nested both_pools _ (record { content = refl; outer_is = refl; inner_is = refl; other_handlers = λ h a b. simp (a, b) refl; outer_handed = refl; inner_handed = refl }) refl (λ listed. ended_dead _ refl) (λ n a b c. simp (a, b, c) refl);
}

pub frozen_before_ends : EndsAs (nesting the_outer) frozen_before nesting_end
frozen_before_ends = ends (nesting the_outer) _ _ main outer_task inner_task _
    (tt, (tt, (to_hand 0 0 0 refl refl (0, omega arith, refl) refl, (tt, (tt, (to_hand 0 1 1 refl refl (0, omega arith, refl) refl, (can_freeze_nested the_outer _ (record { content = refl; outer_is = refl; inner_is = refl; other_handlers = λ h a b. simp (a, b) refl; outer_handed = refl; inner_handed = refl }) refl (λ listed. absurd (not_the_outer listed)) (λ n a b c. simp (a, b, c) refl), (tt, (tt, (tt, refl))))))))))
    (record { first = refl; second = refl; third = refl; others = λ n a b c. simp (a, b, c) refl })
    (none_to_hand the_outer _ (record { content = refl; outer_is = refl; inner_is = refl; other_handlers = λ h a b. simp (a, b) refl; outer_handed = refl; inner_handed = refl }))
    refl

pub frozen_after_ends : EndsAs (nesting both_pools) frozen_after nesting_end
frozen_after_ends = ends (nesting both_pools) _ _ main outer_task inner_task _
    (tt, (tt, (to_hand 0 0 0 refl refl (0, omega arith, refl) refl, (tt, (tt, (to_hand 0 1 1 refl refl (0, omega arith, refl) refl, (tt, (tt, (can_freeze_nested both_pools _ (record { content = refl; outer_is = refl; inner_is = refl; other_handlers = λ h a b. simp (a, b) refl; outer_handed = refl; inner_handed = refl }) refl (λ listed. ended_dead _ refl) (λ n a b c. simp (a, b, c) refl), (tt, refl))))))))))
    (record { first = refl; second = refl; third = refl; others = λ n a b c. simp (a, b, c) refl })
    (none_to_hand both_pools _ (record { content = refl; outer_is = refl; inner_is = refl; other_handlers = λ h a b. simp (a, b) refl; outer_handed = refl; inner_handed = refl }))
    refl
