-- The order of a run's first freezes, and crossing.
use Rattle.std.proofs.Common.{◌≡◌, ◌≢◌, ◌⊎◌, inl, inr, ℕ, Bool, true, false, List, [], ◌∷◌, ◌++◌, Option, Some, None, refl, sym, ◌∙◌, ap, subst, append-nil, if◌then◌else◌}
use Rattle.std.proofs.lemmas.Bool.{both_ways, false_from_ne_true, cases_eq, or_cases, or_left, or_right}
use Rattle.lvish_calculus.specs.Machine.{Machine, IsLawful, Freeze}
use Rattle.lvish_calculus.specs.Calculus.{State, Configuration, Running, Error, Label, Change, Effect, Changes, Fails, Nothing, effect, after, step, start, with_frozen, IsRun, Freezes}
use Rattle.lvish_calculus.specs.Laws.{FreezesBefore, IsCrossed, Reaches, SameEndIf}
use Rattle.lvish_calculus.specs.Handing.{IsAmong, NoRepeats}
use Rattle.lvish_calculus.specs.FreezeOrder.{AreComparable, froze_by, first_frozen, freezes_from, freeze_order, CrossedByOrder, CrossOrComparable, CrossOrSameOrder}
use Rattle.lvish_calculus.proofs.Names.{nat_eq-true, nat_eq-refl}
use Rattle.lvish_calculus.proofs.Steps.{Makes, freezes, view}
use Rattle.lvish_calculus.proofs.Sound.{some_is}
use Rattle.lvish_calculus.proofs.Runs.{same_end_uncrossed}

-- ---- lists

-- v is in the list, and w isn't before it
abbrev Earlier : ℕ → ℕ → List ℕ → Type 0
Earlier v w [] = ⊥
Earlier v w (u ∷ us) = (v ≡ u) ⊎ ((w ≡ u → ⊥) × Earlier v w us)

-- of two numbers, the one is earlier in the one list, and the other in the other
abbrev Crossing : List ℕ → List ℕ → Type 0
Crossing xs ys = (v : ℕ) × (w : ℕ) × (v ≢ w) × Earlier v w xs × Earlier w v ys

earlier_among : (v w : ℕ) (us : List ℕ) → Earlier v w us → IsAmong v us
earlier_among v w [] h = h
earlier_among v w (u ∷ us) (inl e) = inl e
earlier_among v w (u ∷ us) (inr h) = inr (earlier_among v w us h.1)

among_append : (v : ℕ) (us vs : List ℕ) → IsAmong v us → IsAmong v (us ++ vs)
among_append v [] vs h = absurd h
among_append v (u ∷ us) vs (inl e) = inl e
among_append v (u ∷ us) vs (inr h) = inr (among_append v us vs h)

among_end : (us vs : List ℕ) (v : ℕ) → IsAmong v (us ++ v ∷ vs)
among_end [] vs v = inl refl
among_end (u ∷ us) vs v = inr (among_end us vs v)

twice : (us vs : List ℕ) (v : ℕ) → IsAmong v us → NoRepeats (us ++ v ∷ vs) → ⊥
twice [] vs v h once = h
twice (u ∷ us) vs v (inl e) once = once.0 (subst (λ x. IsAmong x (us ++ v ∷ vs)) e (among_end us vs v))
twice (u ∷ us) vs v (inr h) once = twice us vs v h once.1

not_comparable : (v w : ℕ) → v ≢ w → (us vs : List ℕ) → Earlier v w us → Earlier w v (us ++ vs) → ⊥
not_comparable v w ne [] vs h k = h
not_comparable v w ne (u ∷ us) vs (inl e) (inl f) = ne (e ∙ sym f)
not_comparable v w ne (u ∷ us) vs (inl e) (inr k) = k.0 e
not_comparable v w ne (u ∷ us) vs (inr h) (inl f) = h.0 f
not_comparable v w ne (u ∷ us) vs (inr h) (inr k) = not_comparable v w ne us vs h.1 k.1

not_both : (xs ys : List ℕ) → Crossing xs ys → AreComparable xs ys → ⊥
not_both xs ys (v, w, ne, h, k) (inl (zs, e)) = not_comparable v w ne xs zs h (subst (λ q. Earlier w v q) (sym e) k)
not_both xs ys (v, w, ne, h, k) (inr (zs, e)) = not_comparable w v (λ q. ne (sym q)) ys zs k (subst (λ q. Earlier v w q) (sym e) h)

meets : (xs ys : List ℕ) → NoRepeats xs → NoRepeats ys → Crossing xs ys ⊎ AreComparable xs ys
meets [] ys p q = inr (inl (ys, refl))
meets (x ∷ xs) [] p q = inr (inr (x ∷ xs, refl))
meets (x ∷ xs) (y ∷ ys) p q = elim (cases_eq x y) [
  | inr ne ↦ inl (x, y, ne, inl refl, inl refl)
  | inl e ↦ elim (meets xs ys p.1 q.1) [
    | inl (v, w, ne, h, k) ↦ inl (
      v,
      w,
      ne,
      inr ((λ z. q.0 (subst (λ u. IsAmong u ys) (z ∙ e) (earlier_among w v ys k))), h),
      inr ((λ z. p.0 (subst (λ u. IsAmong u xs) (z ∙ sym e) (earlier_among v w xs h))), k),
    )
    | inr (inl (zs, z)) ↦ inr (inl (zs, λ i. e i ∷ z i))
    | inr (inr (zs, z)) ↦ inr (inr (zs, λ i. sym e i ∷ z i))
  ]
]

-- ---- runs

module _ {S E R A L : Type 0} (M : Machine S E R A L) (ok : IsLawful M) where
  froze_is : (c : State S E L) (l : Label E) (v : ℕ) → Freezes M c l v → froze_by (effect M c l) ≡ Some v
  froze_is c l v fr = subst (λ x. froze_by (effect M c x) ≡ Some v) (sym fr.label) (rw (fr.is, fr.asked) refl)

  makes_freezes : (c : State S E L) (l : Label E) (ch : Change S E L) → Makes M c l ch → (v : ℕ) → ch.froze ≡ Some v → Freezes M c l v
  makes_freezes c l ch (freezes t o f a p w pools is q) v e =
      record { task = t; local = o; forks = f; adds = a; puts = p; pools = pools; label = refl; is = is; asked = q ∙ ap (λ y. Freeze y pools) (some_is e) }
  makes_freezes c l ch m v e = absurd (cc e)

  is_freeze : (c : State S E L) (l : Label E) (o : Effect S E L) → effect M c l ≡ o → (v : ℕ) → froze_by o ≡ Some v → Freezes M c l v
  is_freeze c l (Changes ch) e v z = makes_freezes c l ch (view M ok c l ch e) v z
  is_freeze c l (Fails kind w t) e v z = absurd (cc z)
  is_freeze c l Nothing e v z = absurd (cc z)

  -- ---- marks, along any labels
  abbrev IsFrozenIn : Configuration S E L → ℕ → Bool → Type 0
  IsFrozenIn (Running c) v b = c.frozen v ≡ b
  IsFrozenIn (Error kind w t) v b = Unit {0}

  mark_stays : (c : State S E L) (o : Effect S E L) (v : ℕ) → c.frozen v ≡ true → IsFrozenIn (after M c o) v true
  mark_stays c (Changes ch) v e = go ch.froze
    where
      go : (x : Option ℕ) → with_frozen x c.frozen v ≡ true
      go None = e
      go (Some w) = or_right _ _ e
  mark_stays c (Fails kind w t) v e = tt
  mark_stays c Nothing v e = e

  mark_new : (c : State S E L) (o : Effect S E L) (v : ℕ) → froze_by o ≡ Some v → IsFrozenIn (after M c o) v true
  mark_new c (Changes ch) v e = ap (λ x. with_frozen x c.frozen v) e ∙ or_left _ _ (nat_eq-refl v)
  mark_new c (Fails kind w t) v e = absurd (cc e)
  mark_new c Nothing v e = absurd (cc e)

  unmarked : (c : State S E L) (o : Effect S E L) (v : ℕ) → c.frozen v ≡ false → ((u : ℕ) → froze_by o ≡ Some u → v ≡ u → ⊥) → IsFrozenIn (after M c o) v false
  unmarked c (Changes ch) v e ne = go ch.froze refl
    where
      go : (x : Option ℕ) → ch.froze ≡ x → with_frozen x c.frozen v ≡ false
      go None z = e
      go (Some w) z = false_from_ne_true _ (λ y. elim (or_cases _ _ y) [ inl b ↦ ne w z (nat_eq-true v w b) | inr b ↦ both_ways _ e b ])
  unmarked c (Fails kind w t) v e ne = tt
  unmarked c Nothing v e ne = e

  -- a run in which w isn't frozen at a step of v begins where w isn't frozen
  before_unfrozen : (d : Configuration S E L) (ls : List (Label E)) (v w : ℕ) → FreezesBefore M d ls v w → IsFrozenIn d w true → ⊥
  before_unfrozen d [] v w h z = h
  before_unfrozen (Running c) (l ∷ ls) v w (inl h) z = both_ways _ h.1 z
  before_unfrozen (Running c) (l ∷ ls) v w (inr h) z = before_unfrozen (step M c l) ls v w h (mark_stays c (effect M c l) w z)
  before_unfrozen (Error kind x t) (l ∷ ls) v w h z = h

  -- what is listed isn't frozen where the list begins
  listed_unfrozen_step : (c : State S E L) (v : ℕ) (rest : List ℕ) → c.frozen v ≡ true → (IsAmong v rest → ⊥) → (x : Option ℕ) → IsAmong v (first_frozen c x rest) → ⊥
  listed_unfrozen_step c v rest z later None k = later k
  listed_unfrozen_step c v rest z later (Some u) k = by _ refl k
    where
      by : (b : Bool) → c.frozen u ≡ b → IsAmong v (if b then rest else u ∷ rest) → ⊥
      by true e k = later k
      by false e (inl k) = both_ways _ e (subst (λ x. c.frozen x ≡ true) k z)
      by false e (inr k) = later k

  listed_unfrozen : (d : Configuration S E L) (ls : List (Label E)) (v : ℕ) → IsAmong v (freezes_from M d ls) → IsFrozenIn d v true → ⊥
  listed_unfrozen d [] v h z = h
  listed_unfrozen (Running c) (l ∷ ls) v h z =
      listed_unfrozen_step c v (freezes_from M (step M c l) ls) z (λ k. listed_unfrozen (step M c l) ls v k (mark_stays c (effect M c l) v z)) (froze_by (effect M c l)) h
  listed_unfrozen (Error kind w t) (l ∷ ls) v h z = h

  once_step : (c : State S E L) (rest : List ℕ) → NoRepeats rest → (x : Option ℕ) → ((u : ℕ) → x ≡ Some u → IsAmong u rest → ⊥) → NoRepeats (first_frozen c x rest)
  once_step c rest h None new = h
  once_step c rest h (Some u) new = by (c.frozen u)
    where
      by : (b : Bool) → NoRepeats (if b then rest else u ∷ rest)
      by true = h
      by false = (new u refl, h)

  once : (d : Configuration S E L) (ls : List (Label E)) → NoRepeats (freezes_from M d ls)
  once d [] = tt
  once (Running c) (l ∷ ls) = once_step c (freezes_from M (step M c l) ls) (once (step M c l) ls) (froze_by (effect M c l))
      (λ u e k. listed_unfrozen (step M c l) ls u k (mark_new c (effect M c l) u e))
  once (Error kind w t) (l ∷ ls) = tt

  -- v is frozen before w, so it is listed before w
  to_order_step : (c : State S E L) (l : Label E) (ls : List (Label E)) (v w : ℕ) (rest : List ℕ) → c.frozen v ≡ false
      → (FreezesBefore M (step M c l) ls v w → ((u : ℕ) → froze_by (effect M c l) ≡ Some u → v ≡ u → ⊥) → Earlier v w rest)
      → (x : Option ℕ) → froze_by (effect M c l) ≡ x → FreezesBefore M (Running c) (l ∷ ls) v w → Earlier v w (first_frozen c x rest)
  to_order_step c l ls v w rest z later None e (inl k) = absurd (cc (sym e ∙ froze_is c l v k.0))
  to_order_step c l ls v w rest z later None e (inr k) = later k (λ u y q. cc (sym e ∙ y))
  to_order_step c l ls v w rest z later (Some u) e h = by _ refl h
    where
      by : (b : Bool) → c.frozen u ≡ b → FreezesBefore M (Running c) (l ∷ ls) v w → Earlier v w (if b then rest else u ∷ rest)
      by true f (inl k) = absurd (both_ways _ z (subst (λ x. c.frozen x ≡ true) (some_is (sym e ∙ froze_is c l v k.0)) f))
      by false f (inl k) = inl (some_is (sym (froze_is c l v k.0) ∙ e))
      by true f (inr k) = later k (λ x y q. both_ways _ z (subst (λ x. c.frozen x ≡ true) (sym (q ∙ some_is (sym y ∙ e))) f))
      by false f (inr k) = elim (cases_eq v u) [
        | inl q ↦ inl q
        | inr ne ↦ inr ((λ q. before_unfrozen (step M c l) ls v w k (mark_new c (effect M c l) w (e ∙ ap Some (sym q)))), later k (λ x y q. ne (q ∙ some_is (sym y ∙ e))))
      ]

  to_order : (d : Configuration S E L) (ls : List (Label E)) (v w : ℕ) → FreezesBefore M d ls v w → IsFrozenIn d v false → Earlier v w (freezes_from M d ls)
  to_order d [] v w h z = h
  to_order (Running c) (l ∷ ls) v w h z = to_order_step c l ls v w (freezes_from M (step M c l) ls) z (λ k ne. to_order (step M c l) ls v w k (unmarked c (effect M c l) v z ne)) _ refl h
  to_order (Error kind x t) (l ∷ ls) v w h z = absurd h

  -- and back
  from_order_step : (c : State S E L) (l : Label E) (ls : List (Label E)) (v w : ℕ) (rest : List ℕ) → c.frozen w ≡ false
      → (Earlier v w rest → ((u : ℕ) → froze_by (effect M c l) ≡ Some u → w ≡ u → ⊥) → FreezesBefore M (step M c l) ls v w)
      → (x : Option ℕ) → froze_by (effect M c l) ≡ x → Earlier v w (first_frozen c x rest) → FreezesBefore M (Running c) (l ∷ ls) v w
  from_order_step c l ls v w rest z later None e k = inr (later k (λ u y q. cc (sym e ∙ y)))
  from_order_step c l ls v w rest z later (Some u) e k = by _ refl k
    where
      by : (b : Bool) → c.frozen u ≡ b → Earlier v w (if b then rest else u ∷ rest) → FreezesBefore M (Running c) (l ∷ ls) v w
      by true f k = inr (later k (λ x y q. both_ways _ z (subst (λ x. c.frozen x ≡ true) (sym (q ∙ some_is (sym y ∙ e))) f)))
      by false f (inl q) = inl (is_freeze c l _ refl v (e ∙ ap Some (sym q)), z)
      by false f (inr k) = inr (later k.1 (λ x y q. k.0 (q ∙ some_is (sym y ∙ e))))

  from_order : (d : Configuration S E L) (ls : List (Label E)) (v w : ℕ) → Earlier v w (freezes_from M d ls) → IsFrozenIn d w false → FreezesBefore M d ls v w
  from_order d [] v w h z = h
  from_order (Running c) (l ∷ ls) v w h z = from_order_step c l ls v w (freezes_from M (step M c l) ls) z (λ k ne. from_order (step M c l) ls v w k (unmarked c (effect M c l) w z ne)) _ refl h
  from_order (Error kind x t) (l ∷ ls) v w h z = absurd h

  crossed_to : (xs ys : List (Label E)) → IsCrossed M xs ys → Crossing (freeze_order M xs) (freeze_order M ys)
  crossed_to xs ys (v, w, ne, h, k) = (v, w, ne, to_order (Running (start M)) xs v w h refl, to_order (Running (start M)) ys w v k refl)

  crossed_from : (xs ys : List (Label E)) → Crossing (freeze_order M xs) (freeze_order M ys) → IsCrossed M xs ys
  crossed_from xs ys (v, w, ne, h, k) = (v, w, ne, from_order (Running (start M)) xs v w h refl, from_order (Running (start M)) ys w v k refl)

  pub cross_or_comparable : CrossOrComparable M
  cross_or_comparable xs ys = elim (meets (freeze_order M xs) (freeze_order M ys) (once (Running (start M)) xs) (once (Running (start M)) ys)) [
    | inl h ↦ inl (crossed_from xs ys h)
    | inr h ↦ inr h
  ]

  pub crossed_by_order : CrossedByOrder M
  crossed_by_order xs ys = (
    λ h. not_both _ _ (crossed_to xs ys h),
    λ no. elim (cross_or_comparable xs ys) [ inl h ↦ h | inr h ↦ absurd (no h) ],
  )

  uncrossed_comparable : (xs ys : List (Label E)) → AreComparable (freeze_order M xs) (freeze_order M ys) → IsCrossed M xs ys → ⊥
  uncrossed_comparable xs ys h k = not_both _ _ (crossed_to xs ys k) h

  pub same_end_comparable : SameEndIf M (λ xs ys. AreComparable (freeze_order M xs) (freeze_order M ys))
  same_end_comparable xs ys a b ra rb enda endb h = same_end_uncrossed M ok xs ys a b ra rb enda endb (uncrossed_comparable xs ys h)

  pub same_end_same_order : SameEndIf M (λ xs ys. freeze_order M xs ≡ freeze_order M ys)
  same_end_same_order xs ys a b ra rb enda endb e = same_end_comparable xs ys a b ra rb enda endb (inl ([], append-nil (freeze_order M xs) ∙ e))

  -- what is listed, or was frozen before, is frozen at the end
  listed_frozen_step : (c : State S E L) (o : Effect S E L) (v : ℕ) (rest : List ℕ) (x : Option ℕ) → froze_by o ≡ x → IsAmong v (first_frozen c x rest) → IsAmong v rest ⊎ IsFrozenIn (after M c o) v true
  listed_frozen_step c o v rest None e k = inl k
  listed_frozen_step c o v rest (Some u) e k = by (c.frozen u) k
    where
      by : (b : Bool) → IsAmong v (if b then rest else u ∷ rest) → IsAmong v rest ⊎ IsFrozenIn (after M c o) v true
      by true k = inl k
      by false (inl q) = inr (mark_new c o v (e ∙ ap Some (sym q)))
      by false (inr k) = inl k

  listed_frozen : (d : Configuration S E L) (ls : List (Label E)) (a : State S E L) → IsRun M d ls (Running a) → (v : ℕ) → IsAmong v (freezes_from M d ls) ⊎ IsFrozenIn d v true → a.frozen v ≡ true
  listed_frozen d [] a run v (inl h) = absurd h
  listed_frozen d [] a run v (inr z) = subst (λ x. IsFrozenIn x v true) run z
  listed_frozen (Running c) (l ∷ ls) a run v (inr z) = listed_frozen (step M c l) ls a run.1 v (inr (mark_stays c (effect M c l) v z))
  listed_frozen (Running c) (l ∷ ls) a run v (inl h) = listed_frozen (step M c l) ls a run.1 v (listed_frozen_step c (effect M c l) v (freezes_from M (step M c l) ls) _ refl h)
  listed_frozen (Error kind w t) (l ∷ ls) a run v h = absurd run

  -- and what is frozen at the end is listed, or was frozen before
  frozen_listed_step : (c : State S E L) (o : Effect S E L) (v : ℕ) (rest : List ℕ) → c.frozen v ≡ false → (((u : ℕ) → froze_by o ≡ Some u → v ≡ u → ⊥) → IsAmong v rest)
      → (x : Option ℕ) → froze_by o ≡ x → IsAmong v (first_frozen c x rest)
  frozen_listed_step c o v rest z later None e = later (λ u y q. cc (sym e ∙ y))
  frozen_listed_step c o v rest z later (Some u) e = by _ refl
    where
      by : (b : Bool) → c.frozen u ≡ b → IsAmong v (if b then rest else u ∷ rest)
      by true f = later (λ x y q. both_ways _ z (subst (λ x. c.frozen x ≡ true) (sym (q ∙ some_is (sym y ∙ e))) f))
      by false f = elim (cases_eq v u) [ inl q ↦ inl q | inr ne ↦ inr (later (λ x y q. ne (q ∙ some_is (sym y ∙ e)))) ]

  frozen_listed : (d : Configuration S E L) (ls : List (Label E)) (a : State S E L) → IsRun M d ls (Running a) → (v : ℕ) → IsFrozenIn d v false → a.frozen v ≡ true → IsAmong v (freezes_from M d ls)
  frozen_listed d [] a run v z h = absurd (both_ways _ (subst (λ x. IsFrozenIn x v false) run z) h)
  frozen_listed (Running c) (l ∷ ls) a run v z h = frozen_listed_step c (effect M c l) v (freezes_from M (step M c l) ls) z (λ ne. frozen_listed (step M c l) ls a run.1 v (unmarked c (effect M c l) v z ne) h) _ refl
  frozen_listed (Error kind w t) (l ∷ ls) a run v z h = absurd run

  -- comparable orders, of runs with the same end, are the same
  nothing_more : (xs ys : List (Label E)) (a b : State S E L) → Reaches M xs a → Reaches M ys b → a ≡ b → (zs : List ℕ) → freeze_order M ys ≡ freeze_order M xs ++ zs → freeze_order M xs ≡ freeze_order M ys
  nothing_more xs ys a b ra rb e [] q = sym (q ∙ append-nil (freeze_order M xs))
  nothing_more xs ys a b ra rb e (v ∷ zs) q =
      let in_ys : IsAmong v (freeze_order M ys) = subst (λ k. IsAmong v k) (sym q) (among_end (freeze_order M xs) zs v) in
      let at_b : b.frozen v ≡ true = listed_frozen (Running (start M)) ys b rb v (inl in_ys) in
      let at_a : a.frozen v ≡ true = subst (λ (x : State S E L). x.frozen v ≡ true) (sym e) at_b in
      let in_xs : IsAmong v (freeze_order M xs) = frozen_listed (Running (start M)) xs a ra v refl at_a in
      absurd (twice (freeze_order M xs) zs v in_xs (subst (λ k. NoRepeats k) q (once (Running (start M)) ys)))

  pub cross_or_same_order : CrossOrSameOrder M
  cross_or_same_order xs ys a b ra rb enda endb = elim (cross_or_comparable xs ys) [
    | inl h ↦ inl h
    | inr h ↦
        let e : a ≡ b = (same_end_comparable xs ys a b ra rb enda endb h).0 in
        inr (elim h [
          | inl g ↦ nothing_more xs ys a b ra rb e g.0 (sym g.1)
          | inr g ↦ sym (nothing_more ys xs b a rb ra (sym e) g.0 (sym g.1))
        ])
  ]
