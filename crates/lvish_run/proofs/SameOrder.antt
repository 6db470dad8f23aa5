-- Runs that freeze variables in the same order don't cross, whatever the machine.
use Rattle.std.proofs.Common.{◌≡◌, ◌≢◌, ◌⊎◌, inl, inr, ℕ, Bool, true, false, List, [], ◌∷◌, Option, Some, None, refl, sym, ◌∙◌, ap, subst, if◌then◌else◌}
use Rattle.std.proofs.lemmas.Bool.{both_ways, false_from_ne_true, cases_eq, or_cases, or_left, or_right}
use Rattle.lvish_calculus.specs.Machine.{Machine}
use Rattle.lvish_calculus.specs.declared.label.Label.{Label}
use Rattle.lvish_calculus.specs.Calculus.{State, Configuration, Running, Error, Effect, Changes, Fails, Nothing, effect, after, step, start, with_frozen, Freezes}
use Rattle.lvish_calculus.specs.Laws.{FreezesBefore, IsCrossed}
use Rattle.lvish_calculus.specs.FreezeOrder.{froze_by, first_frozen, freezes_from, freeze_order}
use Rattle.lvish_calculus.proofs.Names.{nat_eq-true, nat_eq-refl}
use Rattle.lvish_calculus.proofs.Sound.{some_is}

-- v is in the list, and w isn't before it
abbrev Earlier : ℕ → ℕ → List ℕ → Type 0
Earlier v w [] = ⊥
Earlier v w (u ∷ us) = (v ≡ u) ⊎ ((w ≡ u → ⊥) × Earlier v w us)

-- of two numbers not each is earlier
not_both : (v w : ℕ) → v ≢ w → (us : List ℕ) → Earlier v w us → Earlier w v us → ⊥
not_both v w ne [] h k = h
not_both v w ne (u ∷ us) (inl e) (inl f) = ne (e ∙ sym f)
not_both v w ne (u ∷ us) (inl e) (inr k) = k.0 e
not_both v w ne (u ∷ us) (inr h) (inl f) = h.0 f
not_both v w ne (u ∷ us) (inr h) (inr k) = not_both v w ne us h.1 k.1

module _ {S E R A L : Type 0} (M : Machine S E R A L) where
  froze_is : (c : State S E L) (l : Label E) (v : ℕ) → Freezes M c l v → froze_by (effect M c l) ≡ Some v
  froze_is c l v fr = subst (λ x. froze_by (effect M c x) ≡ Some v) (sym fr.label) (rw (fr.is, fr.asked) refl)

  abbrev IsFrozenIn : Configuration S E L → ℕ → Bool → Type 0
  IsFrozenIn (Running c) v b = c.frozen v ≡ b
  IsFrozenIn (Error kind w t) v b = Unit {0}

  mark_stays : (c : State S E L) (o : Effect S E L) (v : ℕ) → c.frozen v ≡ true → IsFrozenIn (after M c o) v true
  mark_stays c (Changes ch) v e = go ch.froze
    where
      go : (x : Option ℕ) → with_frozen x c.frozen v ≡ true
      go None = e
      go (Some w) = or_right _ _ e
  mark_stays c (Fails kind w t) v e = tt
  mark_stays c Nothing v e = e

  mark_new : (c : State S E L) (o : Effect S E L) (v : ℕ) → froze_by o ≡ Some v → IsFrozenIn (after M c o) v true
  mark_new c (Changes ch) v e = ap (λ x. with_frozen x c.frozen v) e ∙ or_left _ _ (nat_eq-refl v)
  mark_new c (Fails kind w t) v e = absurd (cc e)
  mark_new c Nothing v e = absurd (cc e)

  unmarked : (c : State S E L) (o : Effect S E L) (v : ℕ) → c.frozen v ≡ false → ((u : ℕ) → froze_by o ≡ Some u → v ≡ u → ⊥) → IsFrozenIn (after M c o) v false
  unmarked c (Changes ch) v e ne = go ch.froze refl
    where
      go : (x : Option ℕ) → ch.froze ≡ x → with_frozen x c.frozen v ≡ false
      go None z = e
      go (Some w) z = false_from_ne_true _ (λ y. elim (or_cases _ _ y) [ inl b ↦ ne w z (nat_eq-true v w b) | inr b ↦ both_ways _ e b ])
  unmarked c (Fails kind w t) v e ne = tt
  unmarked c Nothing v e ne = e

  -- a run in which w isn't frozen at a step of v begins where w isn't frozen
  before_unfrozen : (d : Configuration S E L) (ls : List (Label E)) (v w : ℕ) → FreezesBefore M d ls v w → IsFrozenIn d w true → ⊥
  before_unfrozen d [] v w h z = h
  before_unfrozen (Running c) (l ∷ ls) v w (inl h) z = both_ways _ h.1 z
  before_unfrozen (Running c) (l ∷ ls) v w (inr h) z = before_unfrozen (step M c l) ls v w h (mark_stays c (effect M c l) w z)
  before_unfrozen (Error kind x t) (l ∷ ls) v w h z = h

  -- what is frozen before w is listed before w
  listed_step : (c : State S E L) (l : Label E) (ls : List (Label E)) (v w : ℕ) (rest : List ℕ) → c.frozen v ≡ false
      → (FreezesBefore M (step M c l) ls v w → ((u : ℕ) → froze_by (effect M c l) ≡ Some u → v ≡ u → ⊥) → Earlier v w rest)
      → (x : Option ℕ) → froze_by (effect M c l) ≡ x → FreezesBefore M (Running c) (l ∷ ls) v w → Earlier v w (first_frozen c x rest)
  listed_step c l ls v w rest z later None e (inl k) = absurd (cc (sym e ∙ froze_is c l v k.0))
  listed_step c l ls v w rest z later None e (inr k) = later k (λ u y q. cc (sym e ∙ y))
  listed_step c l ls v w rest z later (Some u) e h = by _ refl h
    where
      by : (b : Bool) → c.frozen u ≡ b → FreezesBefore M (Running c) (l ∷ ls) v w → Earlier v w (if b then rest else u ∷ rest)
      by true f (inl k) = absurd (both_ways _ z (subst (λ x. c.frozen x ≡ true) (some_is (sym e ∙ froze_is c l v k.0)) f))
      by false f (inl k) = inl (some_is (sym (froze_is c l v k.0) ∙ e))
      by true f (inr k) = later k (λ x y q. both_ways _ z (subst (λ x. c.frozen x ≡ true) (sym (q ∙ some_is (sym y ∙ e))) f))
      by false f (inr k) = elim (cases_eq v u) [
        | inl q ↦ inl q
        | inr ne ↦ inr ((λ q. before_unfrozen (step M c l) ls v w k (mark_new c (effect M c l) w (e ∙ ap Some (sym q)))), later k (λ x y q. ne (q ∙ some_is (sym y ∙ e))))
      ]

  listed : (d : Configuration S E L) (ls : List (Label E)) (v w : ℕ) → FreezesBefore M d ls v w → IsFrozenIn d v false → Earlier v w (freezes_from M d ls)
  listed d [] v w h z = h
  listed (Running c) (l ∷ ls) v w h z = listed_step c l ls v w (freezes_from M (step M c l) ls) z (λ k ne. listed (step M c l) ls v w k (unmarked c (effect M c l) v z ne)) _ refl h
  listed (Error kind x t) (l ∷ ls) v w h z = absurd h

  pub same_order_uncrossed : (xs ys : List (Label E)) → freeze_order M xs ≡ freeze_order M ys → IsCrossed M xs ys → ⊥
  same_order_uncrossed xs ys e z =
      not_both z.0 z.1 z.2 (freeze_order M ys) (subst (λ us. Earlier z.0 z.1 us) e (listed (Running (start M)) xs z.0 z.1 z.3 refl)) (listed (Running (start M)) ys z.1 z.0 z.4 refl)
