-- What a waiting task waits for, as the last step tells it, over any machine.
use Rattle.std.proofs.Common.{◌≡◌, ◌⊎◌, inl, inr, ℕ, List, Some, None, refl, sym, ap, subst, ◌∙◌, option_and_then, option_map}
use Rattle.lvish_core.specs.Vocabulary.{Label, Act, Hand, Request, Get, Freeze, Stepped, Handed, EndedIn}
use Rattle.lvish_calculus.specs.Machine.{Machine, IsLawful}
use Rattle.lvish_calculus.specs.Calculus.{Live, Ended, Post, State, Configuration, Running, Error, Change, Effect, Changes, Fails, Nothing, CanStep, IsEnabled, IsEnded, IsReady, after, changed, next, effect}
use Rattle.lvish_names.specs.Names.{Name, Handler, handler_of}
use Rattle.lvish_calculus.specs.Blocked.{CanWake, by_put, by_handing, by_end, IsWokenByItsVariable, AllAreBlocked}
use Rattle.lvish_calculus.proofs.Steps.{Makes, puts, ends, hands, view, unview}
use Rattle.lvish_calculus.proofs.Sound.{first, second}
use Rattle.lvish_picture.specs.Counts.{pool_of}
use Rattle.lvish_picture.specs.Laws.{EndsByCursors}
use Rattle.lvish_core.specs.Core.{CoreView, state, IsRunTo, IsStep}
use Rattle.lvish_core.specs.Changes.{touched_by, task_touches, touching}
use Rattle.lvish_core.specs.Blocked.{MayBeWoken, IsBlockedUntilTouched, EndsByCounts}
use Rattle.lvish_core.specs.laws.Runs.{no_error_before, at_state, pictured_by, running_same}

module _ {S E R A L : Type 0} (M : Machine S E R A L) (ok : IsLawful M) (c : State S E L) where
  -- what a task's step concerns
  act_touches : (t : Name E) (ch : Change S E L) → Makes M c (Act t) ch → touched_by M c (Act t) ≡ task_touches M c (Changes ch)
  act_touches t ch m = ap (task_touches M c) (unview M ok c (Act t) ch m)

  -- a handing concerns its handler's variable
  handing_touches : (h : Handler E) (e : E) (v : ℕ) (post : Post) → c.handlers h ≡ Some post → M.pool_variable post.pool ≡ Some v → touched_by M c (Hand h e) ≡ Handed v
  handing_touches h e v post is of = ap (λ o. touching (λ v. Handed v) (option_and_then (λ (q : Post). M.pool_variable q.pool) o)) is ∙ ap (touching (λ v. Handed v)) of

  -- the end of a handler's task that handler's variable
  end_touches : (t : Name E) (h : Handler E) (v : ℕ) (post : Post) → handler_of t ≡ Some h → c.handlers h ≡ Some post → M.pool_variable post.pool ≡ Some v
      → task_touches M c (Changes (record { own = Some (t, Ended); made = None; added = None; joined = None; froze = None; handing = None })) ≡ EndedIn v
  end_touches t h v post leads is of =
      let pool : pool_of c t ≡ Some post.pool =
      ap (λ o. option_and_then (λ g. option_map (λ (q : Post). q.pool) (c.handlers g)) o) leads ∙ ap (λ o. option_map (λ (q : Post). q.pool) o) is in
      ap (λ o. touching (λ v. EndedIn v) (option_and_then M.pool_variable o)) pool ∙ ap (touching (λ v. EndedIn v)) of

  -- what lets a request pass is told by what the step concerns
  told : (l : Label E) (ch : Change S E L) → Makes M c l ch → (q : Request S R L) → CanWake M c ch q → MayBeWoken q (Some (touched_by M c l))
  told _ _ (puts t o f a p w x s is q j same) _ (by_put v r d e) =
      subst (λ z. MayBeWoken {S = S} {R = R} {L = L} (Get v r) (Some z)) (sym (act_touches t _ (puts t o f a p w x s is q j same))) (sym (first e))
  told _ _ (hands h x post is) _ (by_handing v pools g y e on) =
      let same : h ≡ g = first e in
      let is2 : c.handlers h ≡ Some on.post = subst (λ z. c.handlers z ≡ Some on.post) (sym same) on.is in
      subst (λ z. MayBeWoken {S = S} {R = R} {L = L} (Freeze v pools) (Some z)) (sym (handing_touches h x v on.post is2 on.of)) refl
  told _ _ (ends t o f a p is q) _ (by_end v pools u h e leads on) =
      let same : t ≡ u = first e in
      let named : handler_of t ≡ Some h = subst (λ y. handler_of y ≡ Some h) (sym same) leads in
      subst (λ z. MayBeWoken {S = S} {R = R} {L = L} (Freeze v pools) (Some z)) (sym (act_touches t _ (ends t o f a p is q) ∙ end_touches t h v on.post named on.is on.of)) refl
  told _ _ (hands h x post is) _ (by_end v pools u g e leads on) = absurd cc
  told _ _ m _ (by_put v r d e) = absurd cc
  told _ _ m _ (by_handing v pools h e z on) = absurd cc
  told _ _ m _ (by_end v pools u h e leads on) = let z = second e in absurd cc

module _ {P S E R A L : Type 0} (M : Machine S E R A L) (ok : IsLawful M) (waits : IsWokenByItsVariable M) where
  module _ (c d : CoreView P S E L) (xs : List (Label E)) (l : Label E) (said : Stepped) (run : IsRunTo M c xs) (step : IsStep M c l d said) (still : d.fault ≡ None) (none : c.fault ≡ None)
      (t : Name E) (at : L) (f a p : ℕ) (is : (state M c).tasks t ≡ Live at f a p) (ne : l ≡ Act t → ⊥) where
    abbrev Stays : State S E L → Type 0
    Stays s = (s.tasks t ≡ Live at f a p) × (IsReady M s (M.request at) → IsReady M (state M c) (M.request at) ⊎ MayBeWoken (M.request at) d.touched)

    enabled : IsEnabled M (state M c) l
    enabled = subst (λ (q : Configuration S E L). CanStep M q l) (at_state M c none) step.enabled.0

    stepped : Running (state M d) ≡ after M (state M c) (effect M (state M c) l)
    stepped = sym (at_state M d still) ∙ step.stepped ∙ ap (λ (q : Configuration S E L). next M q l) (at_state M c none)

    by : (o : Effect S E L) → effect M (state M c) l ≡ o → Stays (state M d)
    by (Changes ch) e =
        let same : state M d ≡ changed M ch (state M c) = running_same (stepped ∙ ap (after M (state M c)) e) in
        let w = waits xs (state M c) l ch (pictured_by M c xs none run).reached enabled e t at f a p is ne in
        subst Stays (sym same) (
          w.0,
          λ z. elim (w.1 z) [
            | inl y ↦ inl y
            | inr y ↦ inr (subst (λ q. MayBeWoken (M.request at) q) (sym step.touched) (told M ok (state M c) l ch (view M ok (state M c) l ch e) (M.request at) y))
          ],
        )
    by (Fails kind v u) e = let z : Running (state M d) ≡ Error kind v u = stepped ∙ ap (after M (state M c)) e in absurd cc
    by Nothing e =
        let same : state M d ≡ state M c = running_same (stepped ∙ ap (after M (state M c)) e) in
        subst Stays (sym same) (is, λ z. inl z)

    pub stays : Stays (state M d)
    stays = by (effect M (state M c) l) refl

  pub is_blocked_until_touched : IsBlockedUntilTouched P M
  is_blocked_until_touched c d xs l said run step still = stays c d xs l said run step still (no_error_before M (state M c) c.fault l step.enabled.0)

pub ends_by_counts : {P S E R A L : Type 0} (M : Machine S E R A L) → AllAreBlocked M → EndsByCursors M → EndsByCounts P M
ends_by_counts M all cursors c xs n run none running waiting =
    let k = cursors xs c.table (pictured_by M c xs none run) in
    let quiet = all (state M c) n running waiting in (
      λ z. (k.0 (subst (λ q. IsEnded M q) (at_state M c none) z)).1,
      λ z. subst (λ q. IsEnded M q) (sym (at_state M c none)) (k.1 (quiet, z)),
    )
