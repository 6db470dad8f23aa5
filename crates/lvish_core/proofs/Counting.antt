-- The counts of a pool, as a task starts or ends in it.
use Rattle.std.proofs.Common.{◌≡◌, ◌<◌, ◌≤◌, ℕ, if◌then◌else◌, List, [], ◌∷◌, length, map, Option, Some, None, slice_get, slice_set, option_map, option_and_then, zero, suc, refl, sym, ap, subst, ◌∙◌, arith}
use Rattle.std.proofs.lemmas.Option.{same_Some}
use Rattle.lvish_core.specs.Vocabulary.{MOST_PROGRAM_STEPS, HandlerPlace}
use Rattle.lvish_calculus.specs.Machine.{Machine}
use Rattle.lvish_calculus.specs.Calculus.{Task, Ended, State, IsLive}
use Rattle.lvish_names.specs.Names.{Name, Handler}
use Rattle.lvish_handlers.specs.Handlers.{HandlersView as Handlers}
use Rattle.lvish_picture.specs.Steps.{AreHeld}
use Rattle.lvish_picture.specs.Counts.{pool_of, is_this_pool, ends, AreCounts, FewRun, SomeRun, StartIsFollowed, EndIsFollowed, RestIsFollowed}
use Rattle.lvish_core.specs.Core.{CoreView, state}
use Rattle.lvish_core.specs.Places.{IsPlaceOf}
use Rattle.lvish_core.specs.Beside.{IsPoolAt, CanCount, CountsAt, one_more_in, one_less_in}
use Rattle.lvish_core.specs.Kept.{IsKept}
use Rattle.lvish_picture.proofs.Slots.{get_there}

-- where only counts are changed, the handlers are the old ones
pub still_held : {E : Type 0} (old : List (Handlers E)) (v : ℕ) (hs ks : Handlers E) → slice_get old v ≡ Some hs → ks.held ≡ hs.held → AreHeld old (slice_set old v ks)
still_held [] v hs ks at same = refl
still_held (x ∷ xs) zero hs ks at same = ap (λ h. h ∷ map (λ q. q.held) xs) (same ∙ sym (ap (λ q. q.held) (same_Some _ _ at)))
still_held (x ∷ xs) (suc v) hs ks at same = ap (λ r. x.held ∷ r) (still_held xs v hs ks at same)

module _ {P S E R A L : Type 0} {M : Machine S E R A L} {variables n : ℕ} {places : List (Handler E × HandlerPlace)} {old : CoreView P S E L} (kept : IsKept M variables n places old)
    (known : (k v : ℕ) → M.pool_variable k ≡ Some v → v < variables) where
  -- the handlers beside a variable
  pub beside : (p : HandlerPlace) → M.pool_variable p.pool ≡ Some p.variable → (hs : Handlers E) × (slice_get old.table.handlers p.variable ≡ Some hs)
  beside p own =
      let lt : p.variable < variables = known p.pool p.variable own in
      let there : length old.table.variables ≡ variables = kept.there in
      let same : length old.table.handlers ≡ length old.table.variables = kept.standing.pictured.table.beside in
      get_there old.table.handlers p.variable (omega arith)

  pub can_start : FewRun M → old.steps < MOST_PROGRAM_STEPS → (p : HandlerPlace) → M.pool_variable p.pool ≡ Some p.variable → IsPoolAt (λ k. k < MOST_PROGRAM_STEPS) old.table.handlers p
  can_start law room p own =
      let b = beside p own in
      let c = kept.counted p.variable b.0 p.pool b.1 own in
      let few = law kept.standing.run old.table p.pool _ kept.standing.pictured c.1 in
      let short : length kept.standing.run ≤ old.steps = kept.standing.few in
      record { beside = b.0; at = b.1; there = c.0; fits = omega arith }

  pub can_end : SomeRun M → (t : Name E) → IsLive ((state M old).tasks t) → (p : HandlerPlace) → M.pool_variable p.pool ≡ Some p.variable → pool_of (state M old) t ≡ Some p.pool → IsPoolAt (λ k. 0 < k) old.table.handlers p
  can_end law t live p own is =
      let b = beside p own in
      let c = kept.counted p.variable b.0 p.pool b.1 own in
      record { beside = b.0; at = b.1; there = c.0; fits = law old.table t p.pool _ c.1 live is }

  pub can_start_in : FewRun M → old.steps < MOST_PROGRAM_STEPS → (t : Name E) (o : Option HandlerPlace) → IsPlaceOf M (state M old) t o → CanCount (λ k. k < MOST_PROGRAM_STEPS) old.table.handlers o
  can_start_in law room t None is = tt
  can_start_in law room t (Some p) is = can_start law room p (is.own p refl)

  pub can_end_in : SomeRun M → (t : Name E) → IsLive ((state M old).tasks t) → (o : Option HandlerPlace) → IsPlaceOf M (state M old) t o → CanCount (λ k. 0 < k) old.table.handlers o
  can_end_in law t live None is = tt
  can_end_in law t live (Some p) is = can_end law t live p (is.own p refl) (sym is.pool)

  -- what is counted of a task that starts in the place's pool
  pub started : StartIsFollowed M → RestIsFollowed M → (own : Option (Name E × Task L)) (t u : Name E) (k : Task L) (o : Option HandlerPlace) (new : List (Handlers E)) → IsPlaceOf M (state M old) t o → pool_of (state M old) u ≡ pool_of (state M old) t
      → ((p : ℕ) → ends (state M old) own p ≡ 0) → CountsAt one_more_in old.table.handlers o new → AreCounts M (state M old) own (Some (u, k)) old.table.handlers new × AreHeld old.table.handlers new
  started follows rest own t u k None new is same none w = (
    subst (λ l. AreCounts M (state M old) own (Some (u, k)) old.table.handlers l) (sym w)
        (rest (state M old) own (Some (u, k)) old.table.handlers (λ p. ap (λ o. if is_this_pool o p then 1 else 0) (same ∙ sym is.pool)) none),
    ap (map (λ (q : Handlers E). q.held)) w,
  )
  started follows rest own t u k (Some p) new is same none w =
      let c = kept.counted p.variable w.0 p.pool w.1 (is.own p refl) in (
        subst (λ l. AreCounts M (state M old) own (Some (u, k)) old.table.handlers l) (sym w.2)
            (follows (state M old) own u k old.table.handlers p.variable w.0 (w.0).held p.pool (same ∙ sym is.pool) (is.own p refl) w.1 c.0 none),
        subst (λ l. AreHeld old.table.handlers l) (sym w.2) (still_held old.table.handlers p.variable w.0 (one_more_in p.pool w.0) w.1 refl),
      )

  -- and of one that ends in it
  pub stopped : EndIsFollowed M → RestIsFollowed M → (t : Name E) (o : Option HandlerPlace) (new : List (Handlers E)) → IsPlaceOf M (state M old) t o
      → CountsAt one_less_in old.table.handlers o new → AreCounts M (state M old) (Some (t, Ended)) None old.table.handlers new × AreHeld old.table.handlers new
  stopped follows rest t None new is w = (
    subst (λ l. AreCounts M (state M old) (Some (t, Ended)) None old.table.handlers l) (sym w)
        (rest (state M old) (Some (t, Ended)) None old.table.handlers (λ p. refl) (λ p. ap (λ o. if is_this_pool o p then 1 else 0) (sym is.pool))),
    ap (map (λ (q : Handlers E). q.held)) w,
  )
  stopped follows rest t (Some p) new is w =
      let c = kept.counted p.variable w.0 p.pool w.1 (is.own p refl) in (
        subst (λ l. AreCounts M (state M old) (Some (t, Ended)) None old.table.handlers l) (sym w.2)
            (follows (state M old) t old.table.handlers p.variable w.0 (w.0).held p.pool (sym is.pool) (is.own p refl) w.1 c.0),
        subst (λ l. AreHeld old.table.handlers l) (sym w.2) (still_held old.table.handlers p.variable w.0 (one_less_in p.pool w.0) w.1 refl),
      )

-- the variable of a task's pool
pub pool_variable_is : {S E R A L : Type 0} (M : Machine S E R A L) (s : State S E L) (t : Name E) (o : Option HandlerPlace) → IsPlaceOf M s t o → option_map (λ p. p.variable) o ≡ option_and_then M.pool_variable (pool_of s t)
pool_variable_is M s t None is = ap (option_and_then M.pool_variable) is.pool
pool_variable_is M s t (Some p) is = sym (is.own p refl) ∙ ap (option_and_then M.pool_variable) is.pool
