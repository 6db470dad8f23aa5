-- How many tasks run in each pool, and how the counts follow a step.
use Rattle.std.proofs.Common.{◌≡◌, ◌⊎◌, ◌↔◌, inl, inr, ℕ, ◌+◌, ◌-◌, Bool, true, Option, Some, None, nat_eq, if◌then◌else◌, refl, sym, ap, ◌∙◌, subst, arith, ◌<◌, List, length, length-set, slice_get, slice_index, slice_set, suc, ◌≤◌, false, [], ◌∷◌}
use Rattle.std.proofs.lemmas.Bool.{cases_Bool, both_ways, cases_eq, false_from_ne_true}
use Rattle.std.proofs.lemmas.List.{get_or-set_same, get_or-set_other}
use Rattle.std.proofs.lemmas.Option.{slice_get_within}
use Rattle.lvish_calculus.specs.Calculus.{Task, Absent, Live, Ended, State, IsLive, is_live, with_task, Change, IsEnabled, changed, start}
use Rattle.lvish_names.specs.Names.{Name, main, same_name}
use Rattle.lvish_calculus.specs.Machine.{Machine, IsLawful}
use Rattle.lvish_calculus.specs.declared.label.Label.{Label}
use Rattle.lvish_calculus.specs.Handing.{IsAmong, NoRepeats}
use Rattle.lvish_calculus.proofs.Sound.{some_is, IsSound, first}
use Rattle.lvish_calculus.proofs.Names.{cases_name, nat_eq-true, nat_eq-refl, with_task-same, with_task-other, same_name-other}
use Rattle.lvish_calculus.proofs.Among.{Count, count_same, count_more, count_fewer, without, among_without, once_without, gone, one_less}
use Rattle.lvish_calculus.proofs.Steps.{Makes}
use Rattle.lvish_calculus.proofs.Keeps.{sound_after, sound_start, present_before}
use Rattle.lvish_calculus.proofs.Ends.{Way, here, goes}
use Rattle.lvish_calculus.proofs.Runs.{walked}
use Rattle.lvish_handlers.specs.declared.held.Held.{Held}
use Rattle.lvish_handlers.specs.Handlers.{HandlersView as Handlers}
use Rattle.lvish_picture.specs.Counts.{pool_of, PoolHasRunning, is_this_pool, one_in, starts, ends, AreCounts, StartIsFollowed, EndIsFollowed, RestIsFollowed, FewRun, SomeRun}
use Rattle.lvish_picture.specs.Picture.{table_picture}
use Rattle.lvish_picture.proofs.Slots.{written, earlier, read}

pub not_live : {L : Type 0} (k : Task L) → k ≡ Absent → IsLive k → ⊥
not_live k e z = elim (subst (λ q. IsLive q) e z) [ ]

abbrev as_one : Bool → ℕ
as_one b = if b then 1 else 0

module _ {E : Type 0} (eq : E → E → Bool) (is : (a b : E) → (eq a b ≡ true) ↔ (a ≡ b)) where
  -- ---- tasks that start and end

  module _ {S L : Type 0} (c : State S E L) (p : ℕ) where
    -- live in these tasks, and in the pool
    abbrev Runs : (Name E → Task L) → Name E → Type 0
    Runs tasks u = IsLive (tasks u) × (pool_of c u ≡ Some p)

    pool_cases : (u : Name E) → ((pool_of c u ≡ Some p) × (one_in c u p ≡ 1)) ⊎ ((pool_of c u ≡ Some p → ⊥) × (one_in c u p ≡ 0))
    pool_cases u = by (pool_of c u)
      where
        by : (o : Option ℕ) → ((o ≡ Some p) × (as_one (is_this_pool o p) ≡ 1)) ⊎ ((o ≡ Some p → ⊥) × (as_one (is_this_pool o p) ≡ 0))
        by None = inr (λ e. cc, refl)
        by (Some q) = elim (cases_Bool (nat_eq q p)) [
          | inl b ↦ inl (ap (λ (z : ℕ). Some z) (nat_eq-true q p b), ap as_one b)
          | inr b ↦ inr (λ e. both_ways _ b (ap (λ z. nat_eq q z) (sym (some_is e)) ∙ nat_eq-refl q), ap as_one b)
        ]

    module _ (old : Name E → Task L) (t : Name E) (k : Task L) (n : ℕ) where
      written_is : with_task eq (Some (t, k)) old t ≡ k
      written_is = with_task-same eq is t k old

      others : (u : Name E) → (u ≡ t → ⊥) → Runs old u ↔ Runs (with_task eq (Some (t, k)) old) u
      others u ne =
          let e : with_task eq (Some (t, k)) old u ≡ old u = with_task-other eq is t k old u ne in
          (λ z. (subst (λ (q : Task L). IsLive q) (sym e) z.0, z.1), λ z. (subst (λ (q : Task L). IsLive q) e z.0, z.1))

      -- where t is in another pool, or in none
      elsewhere : (pool_of c t ≡ Some p → ⊥) → Count (Runs old) n → Count (Runs (with_task eq (Some (t, k)) old)) n
      elsewhere other h = count_same (Runs old) (Runs (with_task eq (Some (t, k)) old)) n (λ u. elim (cases_name eq is u t) [
        | inl e ↦ (λ y. absurd (other (subst (λ q. pool_of c q ≡ Some p) e y.1)), λ y. absurd (other (subst (λ q. pool_of c q ≡ Some p) e y.1)))
        | inr ne ↦ others u ne
      ]) h

      started : (IsLive (old t) → ⊥) → IsLive k → Count (Runs old) n → Count (Runs (with_task eq (Some (t, k)) old)) (n + one_in c t p)
      started fresh live h = elim (pool_cases t) [
        | inl z ↦ subst (λ m. Count (Runs (with_task eq (Some (t, k)) old)) (n + m)) (sym z.1)
            (count_more eq is (Runs old) (Runs (with_task eq (Some (t, k)) old)) n t (λ y. fresh y.0) (subst (λ (q : Task L). IsLive q) (sym written_is) live, z.0) others h)
        | inr z ↦ subst (λ m. Count (Runs (with_task eq (Some (t, k)) old)) m) (let e : one_in c t p ≡ 0 = z.1 in omega arith)
            (elsewhere z.0 h)
      ]

      went_on : IsLive (old t) → IsLive k → Count (Runs old) n → Count (Runs (with_task eq (Some (t, k)) old)) n
      went_on was live h = count_same (Runs old) (Runs (with_task eq (Some (t, k)) old)) n (λ u. elim (cases_name eq is u t) [
        | inl e ↦ (
          λ y. (subst (λ q. IsLive (with_task eq (Some (t, k)) old q)) (sym e) (subst (λ (q : Task L). IsLive q) (sym written_is) live), y.1),
          λ y. (subst (λ q. IsLive (old q)) (sym e) was, y.1),
        )
        | inr ne ↦ others u ne
      ]) h

      stopped : IsLive (old t) → (IsLive k → ⊥) → Count (Runs old) n → Count (Runs (with_task eq (Some (t, k)) old)) (n - one_in c t p)
      stopped was dead h = elim (pool_cases t) [
        | inl z ↦ subst (λ m. Count (Runs (with_task eq (Some (t, k)) old)) (n - m)) (sym z.1)
            (count_fewer eq is (Runs old) (Runs (with_task eq (Some (t, k)) old)) n t (was, z.0) (λ y. dead (subst (λ (q : Task L). IsLive q) written_is y.0)) others h)
        | inr z ↦ subst (λ m. Count (Runs (with_task eq (Some (t, k)) old)) m) (let e : one_in c t p ≡ 0 = z.1 in omega arith)
            (elsewhere z.0 h)
      ]

    -- the made task is live, and was not there
    pub record MadeNew (tasks : Name E → Task L) (made : Option (Name E × Task L)) : Type 0 where
      pub absent : (t : Name E) (k : Task L) → made ≡ Some (t, k) → tasks t ≡ Absent
      pub live : (t : Name E) (k : Task L) → made ≡ Some (t, k) → IsLive k

    -- the acting task was live
    abbrev pub OwnLive : (Name E → Task L) → Option (Name E × Task L) → Type 0
    OwnLive tasks own = (t : Name E) (k : Task L) → own ≡ Some (t, k) → IsLive (tasks t) × (k ≡ Absent → ⊥)

    after_made : (tasks : Name E → Task L) (made : Option (Name E × Task L)) (n : ℕ) → MadeNew tasks made → Count (Runs tasks) n → Count (Runs (with_task eq made tasks)) (n + starts c made p)
    after_made tasks None n m h = subst (λ q. Count (Runs tasks) q) (omega arith) h
    after_made tasks (Some (t, k)) n m h = started tasks t k n (not_live (tasks t) (m.absent t k refl)) (m.live t k refl) h

    own_cases : (tasks : Name E → Task L) (t : Name E) (k : Task L) (n : ℕ) → IsLive (tasks t) → (k ≡ Absent → ⊥) → Count (Runs tasks) n → Count (Runs (with_task eq (Some (t, k)) tasks)) (n - ends c (Some (t, k)) p)
    own_cases tasks t Absent n was there h = absurd (there refl)
    own_cases tasks t (Live o f a q) n was there h = subst (λ m. Count (Runs (with_task eq (Some (t, Live o f a q)) tasks)) m) (omega arith) (went_on tasks t (Live o f a q) n was is_live h)
    own_cases tasks t Ended n was there h = stopped tasks t Ended n was (λ z. elim z [ ]) h

    after_own : (tasks : Name E → Task L) (own : Option (Name E × Task L)) (n : ℕ) → OwnLive tasks own → Count (Runs tasks) n → Count (Runs (with_task eq own tasks)) (n - ends c own p)
    after_own tasks None n o h = subst (λ q. Count (Runs tasks) q) (omega arith) h
    after_own tasks (Some (t, k)) n o h = let z = o t k refl in own_cases tasks t k n z.0 z.1 h

    -- live before the making, and so after it
    still_live : (tasks : Name E → Task L) (made : Option (Name E × Task L)) (t : Name E) → MadeNew tasks made → IsLive (tasks t) → IsLive (with_task eq made tasks t)
    still_live tasks None t m z = z
    still_live tasks (Some (u, k)) t m z = subst (λ (q : Task L). IsLive q) (sym (with_task-other eq is u k tasks t (λ e. not_live (tasks t) (ap tasks e ∙ m.absent u k refl) z))) z

    pub follow : (d : State S E L) (own made : Option (Name E × Task L)) (n : ℕ) → ((u : Name E) → d.tasks u ≡ with_task eq own (with_task eq made c.tasks) u) → OwnLive c.tasks own → MadeNew c.tasks made
        → ((u : Name E) → IsLive (d.tasks u) → pool_of d u ≡ pool_of c u) → PoolHasRunning c p n → PoolHasRunning d p (n + starts c made p - ends c own p)
    follow d own made n tasks o m pools h =
        let first : Count (Runs c.tasks) n = record { names = h.names; once = h.once; just = h.just; count = h.count } in
        let second : Count (Runs (with_task eq own (with_task eq made c.tasks))) (n + starts c made p - ends c own p) =
        after_own (with_task eq made c.tasks) own (n + starts c made p) (λ t k e. let z = o t k e in (still_live c.tasks made t m z.0, z.1)) (after_made c.tasks made n m first) in
        record {
          names = second.names;
          once = second.once;
          just = λ u. (
            λ z. let y = (second.just u).0 z in let live : IsLive (d.tasks u) = subst (λ (q : Task L). IsLive q) (sym (tasks u)) y.0 in (live, pools u live ∙ y.1),
            λ z. (second.just u).1 (subst (λ (q : Task L). IsLive q) (tasks u) z.0, sym (pools u z.0) ∙ z.1),
          );
          count = second.count;
        }

module _ {S E L : Type 0} (c : State S E L) (t : Name E) (q : ℕ) (pool : pool_of c t ≡ Some q) where
  in_it : one_in c t q ≡ 1
  in_it = ap (λ o. as_one (is_this_pool o q)) pool ∙ ap as_one (nat_eq-refl q)

  in_other : (p : ℕ) → (p ≡ q → ⊥) → one_in c t p ≡ 0
  in_other p ne = ap (λ o. as_one (is_this_pool o p)) pool ∙ ap as_one (false_from_ne_true _ (λ e. ne (sym (nat_eq-true q p e))))

module _ {S E R A L : Type 0} (M : Machine S E R A L) where
  -- one count of one variable is set
  set_follows : (c : State S E L) (own made : Option (Name E × Task L)) (old : List (Handlers E)) (v : ℕ) (hs : Handlers E) (held : List (Held E)) (q n : ℕ)
      → M.pool_variable q ≡ Some v → slice_get old v ≡ Some hs → q < length hs.running
      → n ≡ slice_index hs.running q + starts c made q - ends c own q → ((p : ℕ) → (p ≡ q → ⊥) → starts c made p ≡ 0) → ((p : ℕ) → (p ≡ q → ⊥) → ends c own p ≡ 0)
      → AreCounts M c own made old (slice_set old v (record { held = held; running = slice_set hs.running q n }))
  set_follows c own made old v hs held q n of at lt value no_start no_end w ks p there of_p =
      elim (read old v (record { held = held; running = slice_set hs.running q n }) w ks (slice_get_within old v hs at) there) [
        | written wv kn ↦
            let running : ks.running ≡ slice_set hs.running q n = ap (λ (k : Handlers E). k.running) kn in
            let reads : slice_index ks.running p ≡ slice_index (slice_set hs.running q n) p = ap (λ l. slice_index l p) running in (
              hs,
              ap (λ u. slice_get old u) wv ∙ at,
              ap length running ∙ length-set hs.running q n,
              elim (cases_eq p q) [
                | inl e ↦ reads ∙ ap (λ u. slice_index (slice_set hs.running q n) u) e ∙ get_or-set_same hs.running q n 0 lt ∙ value
                    ∙ ap (λ u. slice_index hs.running u + starts c made u - ends c own u) (sym e)
                | inr ne ↦ reads ∙ get_or-set_other hs.running q p n 0 ne ∙ still p (no_start p ne) (no_end p ne)
              ],
            )
        | earlier ne is ↦
            let other : p ≡ q → ⊥ = (λ e. ne (some_is (sym of_p ∙ ap M.pool_variable e ∙ of))) in
            (ks, is, refl, let a : starts c made p ≡ 0 = no_start p other in let b : ends c own p ≡ 0 = no_end p other in omega arith)
      ]
    where
      still : (p : ℕ) → starts c made p ≡ 0 → ends c own p ≡ 0 → slice_index hs.running p ≡ slice_index hs.running p + starts c made p - ends c own p
      still p a b = omega arith

  pub start_is_followed : IsLawful M → StartIsFollowed M
  start_is_followed ok c own t k old v hs held q pool of at lt none =
      set_follows c own (Some (t, k)) old v hs held q (slice_index hs.running q + 1) of at lt
      (let a : one_in c t q ≡ 1 = in_it c t q pool in let b : ends c own q ≡ 0 = none q in omega arith)
      (λ p ne. in_other c t q pool p ne) (λ p ne. none p)

  pub end_is_followed : IsLawful M → EndIsFollowed M
  end_is_followed ok c t old v hs held q pool of at lt =
      set_follows c (Some (t, Ended)) None old v hs held q (slice_index hs.running q - 1) of at lt
      (let a : one_in c t q ≡ 1 = in_it c t q pool in omega arith)
      (λ p ne. refl) (λ p ne. in_other c t q pool p ne)

  pub rest_is_followed : IsLawful M → RestIsFollowed M
  rest_is_followed ok c own made old no_start no_end v ks p there of = (ks, there, refl, let a : starts c made p ≡ 0 = no_start p in let b : ends c own p ≡ 0 = no_end p in omega arith)

length_without : {E : Type 0} (eq : E → E → Bool) (is : (a b : E) → (eq a b ≡ true) ↔ (a ≡ b)) (t : Name E) (us : List (Name E)) → length us ≤ suc (length (without eq is t us))
length_without eq is t [] = omega arith
length_without {E} eq is t (u ∷ us) = by (length_without eq is t us) (same_name eq u t)
  where
    by : length us ≤ suc (length (without eq is t us)) → (b : Bool) → suc (length us) ≤ suc (length (if b then us else u ∷ without eq is t us))
    by ih true = omega arith
    by ih false = omega (arith, ih)

module _ {S E R A L : Type 0} (M : Machine S E R A L) (ok : IsLawful M) where
  -- at most b tasks are there beside main
  record Bound (c : State S E L) (b : ℕ) : Type 0 where
    few : (ns : List (Name E)) → NoRepeats ns → ((t : Name E) → IsAmong t ns → (c.tasks t ≡ Absent → ⊥) × (t ≡ main → ⊥)) → length ns ≤ b

  bound_start : Bound (start M) 0
  bound_start = record { few = none }
    where
      none : (ns : List (Name E)) → NoRepeats ns → ((t : Name E) → IsAmong t ns → ((start M).tasks t ≡ Absent → ⊥) × (t ≡ main → ⊥)) → length ns ≤ 0
      none [] once h = omega arith
      none (t ∷ ns) once h =
          let z = h t (inl refl) in
          absurd (z.0 (ap (λ b. if b then Live M.start 0 0 0 else Absent) (same_name-other M.event_same ok.event_same_is t main z.1)))

  bound_after : (c : State S E L) (l : Label E) (ch : Change S E L) → Makes M c l ch → IsEnabled M c l → IsSound c → (b : ℕ) → Bound c b → Bound (changed M ch c) (suc b)
  bound_after c l ch m en s b bound = record {
    few = λ ns once h. by ns once h ch.made refl;
  }
    where
      by : (ns : List (Name E)) → NoRepeats ns → ((t : Name E) → IsAmong t ns → ((changed M ch c).tasks t ≡ Absent → ⊥) × (t ≡ main → ⊥)) → (made : Option (Name E × Task L)) → ch.made ≡ made → length ns ≤ suc b
      by ns once h None e =
          let le = bound.few ns once (λ t i. let z = h t i in (elim (present_before M ok c l ch m en s t z.0) [ inl y ↦ absurd (cc (sym e ∙ y.1)) | inr y ↦ y ], z.1)) in
          omega (arith, le)
      by ns once h (Some (u, k)) e =
          let less : List (Name E) = without M.event_same ok.event_same_is u ns in
          let le = bound.few less (once_without M.event_same ok.event_same_is u ns once) (λ t i.
          let z = h t (among_without M.event_same ok.event_same_is u t ns i) in (
            elim (present_before M ok c l ch m en s t z.0) [
              | inl y ↦ absurd (gone M.event_same ok.event_same_is u ns once (subst (λ q. IsAmong q less) (first (sym y.1 ∙ e)) i))
              | inr y ↦ y
            ],
            z.1,
          )) in
          let up = length_without M.event_same ok.event_same_is u ns in
          omega (arith, le, up)

  bound_way : (c d : State S E L) (ls : List (Label E)) → IsSound c → Way M c ls d → (b : ℕ) → Bound c b → Bound d (b + length ls)
  bound_way c d ls s here b bound = subst (λ n. Bound c n) (omega arith) bound
  bound_way c d (l ∷ ls) s (goes ch m en w) b bound =
      subst (λ n. Bound d n) (omega arith) (bound_way (changed M ch c) d ls (sound_after M ok c l ch m en s) w (suc b) (bound_after c l ch m en s b bound))

  pub few_run : FewRun M
  few_run xs c p n k h =
      let way : Way M (start M) xs (table_picture M c) = (walked M ok main xs (start M) (table_picture M c) k.reached).way in
      let bound : Bound (table_picture M c) (0 + length xs) = bound_way (start M) (table_picture M c) xs (sound_start M ok) way 0 bound_start in
      let le = bound.few h.names h.once (λ t i. let z = (h.just t).0 i in (λ e. not_live _ e z.0, λ e. absurd (cc (subst (λ q. pool_of (table_picture M c) q ≡ Some p) e z.1)))) in
      let len : length h.names ≡ n = h.count in
      omega (arith, le, len)

  pub some_run : SomeRun M
  some_run c t p n h live pool =
      let i : IsAmong t h.names = (h.just t).1 (live, pool) in
      let less = one_less M.event_same ok.event_same_is t h.names i in
      let len : length h.names ≡ n = h.count in
      omega (arith, less, len)
