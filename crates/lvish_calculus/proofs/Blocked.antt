-- What a waiting task waits for.
use Rattle.std.proofs.Common.{◌≡◌, ◌⊎◌, inl, inr, ℕ, true, ◌&&◌, ◌||◌, List, length, Option, Some, None, IsSome, nat_eq, refl, sym, ◌∙◌, ap, subst}
use Rattle.std.proofs.lemmas.Bool.{and_parts, cases_Bool, cases_eq, or_cases}
use Rattle.lvish_calculus.specs.Machine.{Machine, IsLawful, IsBelow, IsOf, Request, Get, Freeze}
use Rattle.lvish_calculus.specs.Calculus.{Task, Absent, Live, Ended, Post, State, Label, Change, changed, IsOn, IsIn, IsLive, is_live, IsQuiescent, IsReady, IsReadyTask, IsEnabled, with_join, with_handed}
use Rattle.lvish_names.specs.Names.{Name, Handler, handler_of, same_handler}
use Rattle.lvish_calculus.specs.Blocked.{CanWake, by_put, by_handing, by_end, IsWokenByItsVariable, AllAreBlocked}
use Rattle.lvish_calculus.proofs.Names.{same_handler-true, nat_eq-true}
use Rattle.lvish_calculus.proofs.Among.{all_of_them}
use Rattle.lvish_calculus.proofs.Order.{below_le, with_join-other}
use Rattle.lvish_calculus.proofs.Steps.{Makes, view}
use Rattle.lvish_calculus.proofs.Sound.{IsSound, some_is, first, second, IsNext, own_is}
use Rattle.lvish_calculus.proofs.Keeps.{next_present, tasks_after, made_absent, handlers_stay}
use Rattle.lvish_calculus.proofs.Moves.{content_le, task_stays}
use Rattle.lvish_calculus.proofs.Runs.{reached}

cases_some : (o : Option ℕ) (v : ℕ) → (o ≡ Some v) ⊎ (o ≡ Some v → ⊥)
cases_some None v = inr (λ e. cc)
cases_some (Some w) v = elim (cases_eq w v) [ inl e ↦ inl (ap Some e) | inr ne ↦ inr (λ e. ne (some_is e)) ]

-- a handler is on the variable or not
on_it : {S E R A L : Type 0} (M : Machine S E R A L) (c : State S E L) (h : Handler E) (v : ℕ) → IsOn M c h v ⊎ (IsOn M c h v → ⊥)
on_it M c h v = by (c.handlers h) refl
  where
    by : (o : Option Post) → c.handlers h ≡ o → IsOn M c h v ⊎ (IsOn M c h v → ⊥)
    by None e = inr (λ on. absurd (cc on.is))
    by (Some post) e = elim (cases_some (M.pool_variable post.pool) v) [
      | inl of ↦ inl (record { post = post; is = e; of = of })
      | inr other ↦ inr (λ on. other (ap (λ (q : Post). M.pool_variable q.pool) (some_is (sym e ∙ on.is)) ∙ on.of))
    ]

module _ {S E R A L : Type 0} (M : Machine S E R A L) (ok : IsLawful M) (c : State S E L) (l : Label E) (ch : Change S E L) (m : Makes M c l ch) (en : IsEnabled M c l) (s : IsSound c) where
  get_before : (v : ℕ) (r : R) → IsSome (M.answer r ((changed M ch c).content v)) → IsSome (M.answer r (c.content v)) ⊎ CanWake M c ch (Get v r)
  get_before v r z = by_joined ch.joined refl
    where
      by_joined : (o : Option (ℕ × S)) → ch.joined ≡ o → IsSome (M.answer r (c.content v)) ⊎ CanWake M c ch (Get v r)
      by_joined None e = inl (subst (λ o. IsSome (M.answer r (with_join M.join o c.content v))) e z)
      by_joined (Some n) e = elim (cases_Bool (nat_eq v n.0)) [
        | inl b ↦ inr (by_put v r n.1 (e ∙ ap (λ u. Some (u, n.1)) (sym (nat_eq-true v n.0 b))))
        | inr b ↦ inl (subst (λ x. IsSome (M.answer r x)) (with_join-other M ok n.0 n.1 c.content v b) (subst (λ o. IsSome (M.answer r (with_join M.join o c.content v))) e z))
      ]

  module _ (v : ℕ) (pools : List ℕ) (of : IsOf M pools v) (quiet : IsQuiescent M (changed M ch c) v pools) where
    abbrev Drained : Type 0
    Drained = (h : Handler E) (e : E) → IsOn M c h v → IsBelow M e (c.content v) → c.handed h e ≡ true

    -- each event below v was handed by now
    drained_after : (h : Handler E) (e : E) → IsOn M c h v → IsBelow M e (c.content v) → (changed M ch c).handed h e ≡ true
    drained_after h e on below = quiet.drained h e (record { post = on.post; is = handlers_stay M ok c l ch m en s h on.post on.is; of = on.of }) (below_le M ok e _ _ (content_le M ok c l ch m en s v) below)

    drained_before : (o : Option (Handler E × E)) → ch.handing ≡ o → Drained ⊎ CanWake M c ch (Freeze v pools)
    drained_before None q = inl (λ h e on below. subst (λ o. with_handed M.event_same o c.handed h e ≡ true) q (drained_after h e on below))
    drained_before (Some n) q = elim (on_it M c n.0 v) [
      | inl on ↦ inr (by_handing v pools n.0 n.1 q on)
      | inr off ↦ inl (λ h e on below.
          let z : ((same_handler M.event_same h n.0 && M.event_same e n.1) || c.handed h e) ≡ true = subst (λ o. with_handed M.event_same o c.handed h e ≡ true) q (drained_after h e on below) in
          elim (or_cases (same_handler M.event_same h n.0 && M.event_same e n.1) (c.handed h e) z) [
            | inl b ↦ absurd (off (subst (λ g. IsOn M c g v) (same_handler-true M.event_same ok.event_same_is h n.0 (and_parts (same_handler M.event_same h n.0) (M.event_same e n.1) b).0) on))
            | inr b ↦ b
          ])
    ]

    -- no task of these pools ends by this step
    abbrev NoneEnds : Type 0
    NoneEnds = (t : Name E) → ch.own ≡ Some (t, Ended) → IsIn c t pools → ⊥

    in_no_pool : (t : Name E) (k : Task L) → ch.own ≡ Some (t, k) → (IsIn c t pools → ⊥) → NoneEnds
    in_no_pool t k q outside = λ u e i. outside (subst (λ x. IsIn c x pools) (first (sym e ∙ q)) i)

    by_handler : (t : Name E) → ch.own ≡ Some (t, Ended) → (o : Option (Handler E)) → handler_of t ≡ o → NoneEnds ⊎ CanWake M c ch (Freeze v pools)
    by_handler t q None e = inl (in_no_pool t Ended q (λ i. let z : ◌≡◌ {A = Option (Handler E)} None (Some i.handler) = sym e ∙ i.of in absurd cc))
    by_handler t q (Some h) e = elim (on_it M c h v) [
      | inl on ↦ inr (by_end v pools t h q e on)
      | inr off ↦ inl (in_no_pool t Ended q (λ i.
          let g : i.handler ≡ h = some_is (sym i.of ∙ e) in
          off (subst (λ x. IsOn M c x v) g (record { post = i.post; is = i.is; of = of i.post.pool i.listed }))))
    ]

    ends_before : (o : Option (Name E × Task L)) → ch.own ≡ o → NoneEnds ⊎ CanWake M c ch (Freeze v pools)
    ends_before (Some (t, Ended)) q = by_handler t q (handler_of t) refl
    ends_before (Some (t, k)) q = inl (λ u e i. absurd (cc (second (sym q ∙ e))))
    ends_before None q = inl (λ u e i. absurd (cc (sym q ∙ e)))

    in_after : (t : Name E) → IsIn c t pools → IsIn (changed M ch c) t pools
    in_after t i = record { handler = i.handler; of = i.of; post = i.post; is = handlers_stay M ok c l ch m en s i.handler i.post i.is; listed = i.listed }

    live_or_ended : (t : Name E) (k : Task L) (f a : ℕ) → IsNext k f a → ch.own ≡ Some (t, k) → NoneEnds → IsIn c t pools → IsLive k
    live_or_ended t (Live o f a p) g b n q none i = is_live
    live_or_ended t Ended g b n q none i = absurd (none t q i)
    live_or_ended t Absent g b n q none i = let z : ⊥ = next_present Absent g b n refl in absurd z

    ended_before : NoneEnds → (t : Name E) → IsIn c t pools → IsLive (c.tasks t) → ⊥
    ended_before none t i live = elim (tasks_after M ok c l ch m en s t) [
      | inl w ↦ let g = own_is M ok c l ch m t w.0 w.1 in
          quiet.ended t (in_after t i) (subst (λ x. IsLive x) (sym w.2) (live_or_ended t w.0 g.forks g.adds g.next w.1 none i))
      | inr (inl w) ↦ elim (subst (λ x. IsLive x) (made_absent M ok c l ch m en s t w.0 w.1) live) [ ]
      | inr (inr w) ↦ quiet.ended t (in_after t i) (subst (λ x. IsLive x) (sym w) live)
    ]

    freeze_before : IsQuiescent M c v pools ⊎ CanWake M c ch (Freeze v pools)
    freeze_before = elim (drained_before ch.handing refl) [
      | inr w ↦ inr w
      | inl d ↦ elim (ends_before ch.own refl) [
        | inr w ↦ inr w
        | inl none ↦ inl (record { drained = d; ended = ended_before none })
      ]
    ]

  pub ready_before : (at : L) (q : Request S R L) → M.request at ≡ q → IsReady M (changed M ch c) q → IsReady M c q ⊎ CanWake M c ch q
  ready_before at (Get v r) is z = get_before v r z
  ready_before at (Freeze v pools) is z = freeze_before v pools (ok.freeze_own at v pools is) z
  ready_before at q is z = inl tt

pub live_ready : {S E R A L : Type 0} (M : Machine S E R A L) (c : State S E L) (k : Task L) → IsReadyTask M c k → IsLive k
live_ready M c (Live o f a p) z = is_live
live_ready M c k z = absurd z

module _ {S E R A L : Type 0} (M : Machine S E R A L) (ok : IsLawful M) where
  pub is_woken_by_its_variable : IsWokenByItsVariable M
  is_woken_by_its_variable ls c l ch run en does t at f a p is ne =
      let m = view M ok c l ch does in
      let s = reached M ok ls c run in
      (task_stays M ok c l ch m en s t at f a p is ne, λ z. ready_before M ok c l ch m en s at (M.request at) refl z)

  pub all_are_blocked : AllAreBlocked M
  all_are_blocked c n live waiting t z =
      let as_many : length waiting.names ≡ length live.names = waiting.count ∙ sym live.count in
      let among = all_of_them M.event_same ok.event_same_is waiting.names live.names waiting.once (λ u i. (live.just u).1 (waiting.live u i)) as_many t ((live.just t).1 (live_ready M c (c.tasks t) z)) in
      waiting.wait t among z
