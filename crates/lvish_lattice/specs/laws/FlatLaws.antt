-- The flat lattice is a lattice.
use Rattle.std.specs.Prelude.{◌≡◌, Bool, true, false, cond, ◌||◌, [], ◌∷◌, Some, None, option_and_then, refl, ◌⊎◌, Contains}
use Rattle.std.specs.List.{list_any}
use Rattle.std.proofs.lemmas.Map.Views.{Contains-from_any, list_any-from_Contains}
use Rattle.std.proofs.Common.{sym, ◌∙◌, ap, subst, inl, inr}
use Rattle.std.proofs.lemmas.Option.{cond_some, none-some}
use Rattle.std.specs.Set.{is_member, IsUnion}
use Rattle.std.specs.List.Sorted.{IsStrictlySortedBy}
use Rattle.std.specs.declared.cmp.Ordering.{Ordering}
use Rattle.std.specs.Cmp.{IsEquivalence}
use Rattle.lvish_lattice.specs.declared.flat.Flat.{Flat}
use Rattle.lvish_lattice.specs.declared.flat.Flat.TheVariants.{Bottom, Value}
use Rattle.lvish_lattice.specs.declared.flat.FlatRead.{FlatRead}
use Rattle.lvish_lattice.specs.declared.flat.FlatRead.TheVariants.{Any, In}
use Rattle.lvish_lattice.specs.Lattice.{IsIdentity, IsJoin, IsAtOrBelow, HasEvents, IsChecked, IsAnswered, IsWatched}
use Rattle.lvish_lattice.specs.Flat.{joined, events_of, Member, answer_of, spot_of, watched}

module _ {V : Type 0} (eq : V → V → Bool) (same : IsIdentity eq) where
  pub flat_identical : (test : Flat V → Flat V → Bool) → ((y : V) → test Bottom (Value y) ≡ false) → ((x : V) → test (Value x) Bottom ≡ false) → ((x y : V) → test (Value x) (Value y) ≡ eq x y) → IsIdentity test
  flat_identical test left right both Bottom Bottom e = refl
  flat_identical test left right both Bottom (Value y) e = absurd (cc (left y))
  flat_identical test left right both (Value x) Bottom e = absurd (cc (right x))
  flat_identical test left right both (Value x) (Value y) e = ap Value (same x y (sym (both x y) ∙ e))

  module _ (laws : IsEquivalence eq) where
    picks : (b : Bool) (x y : V) → (b ≡ true → x ≡ y) → cond b (Some (Value x)) None ≡ cond b (Some (Value y)) None
    picks true x y h = ap (λ (v : V). Some (Value v)) (h refl)
    picks false x y h = refl

    swaps : (a b : Flat V) → joined eq a b ≡ joined eq b a
    swaps Bottom Bottom = refl
    swaps Bottom (Value y) = refl
    swaps (Value x) Bottom = refl
    swaps (Value x) (Value y) = picks (eq x y) x y (same x y) ∙ ap (λ b. cond b (Some (Value y)) None) (laws.symm x y)

    regroups_by : (x y z : V) (p q : Bool) → eq x y ≡ p → eq y z ≡ q → option_and_then (λ w. joined eq w (Value z)) (cond p (Some (Value x)) None) ≡ option_and_then (λ w. joined eq (Value x) w) (cond q (Some (Value y)) None)
    regroups_by x y z true true p q = let e : eq x z ≡ true = laws.congr x y z p ∙ q in rw (p, e) refl
    regroups_by x y z true false p q = let e : eq x z ≡ false = laws.congr x y z p ∙ q in rw e refl
    regroups_by x y z false true p q = rw p refl
    regroups_by x y z false false p q = refl

    regroups : (a b c : Flat V) → option_and_then (λ x. joined eq x c) (joined eq a b) ≡ option_and_then (λ x. joined eq a x) (joined eq b c)
    regroups Bottom Bottom c = refl
    regroups Bottom (Value y) Bottom = refl
    regroups Bottom (Value y) (Value z) = elim (eq y z) as (λ b. cond b (Some (Value y)) None ≡ option_and_then (λ x. Some x) (cond b (Some (Value y)) None)) [ true ↦ refl | false ↦ refl ]
    regroups (Value x) Bottom Bottom = refl
    regroups (Value x) Bottom (Value z) = refl
    regroups (Value x) (Value y) Bottom = elim (eq x y) as (λ b. option_and_then (λ w. joined eq w Bottom) (cond b (Some (Value x)) None) ≡ cond b (Some (Value x)) None) [ true ↦ refl | false ↦ refl ]
    regroups (Value x) (Value y) (Value z) = regroups_by x y z (eq x y) (eq y z) refl refl

    pub flat_is_join : IsJoin Bottom (joined eq)
    flat_is_join = record {
      unit = λ a. refl;
      idempotent = λ a. elim a as (λ (x : Flat V). joined eq x x ≡ Some x) [ Bottom ↦ refl | Value x ↦ ap (λ b. cond b (Some (Value x)) None) (laws.refl x) ];
      commutative = λ a b. swaps a b;
      associative = λ a b c. regroups a b c;
    }

    unites : (a b c : Flat V) → joined eq a b ≡ Some c → IsUnion eq (events_of a) (events_of b) (events_of c)
    unites Bottom b c e = let s : b ≡ c = cc in λ q. ap (λ (x : Flat V). is_member eq (events_of x) q) (sym s)
    unites (Value x) Bottom c e = let s : Value x ≡ c = cc in subst (λ (f : Flat V). IsUnion eq (x ∷ []) [] (events_of f)) s (λ q. elim (eq q x) as (λ b. (b || false) ≡ ((b || false) || false)) [ true ↦ refl | false ↦ refl ])
    unites (Value x) (Value y) c e =
        let j = cond_some (eq x y) (Value x) c e in
        let v : x ≡ y = same x y j.0 in
        subst (λ (f : Flat V). IsUnion eq (x ∷ []) (y ∷ []) (events_of f)) j.1
        (subst (λ (w : V). IsUnion eq (x ∷ []) (w ∷ []) (x ∷ [])) v (λ q. elim (eq q x) as (λ b. (b || false) ≡ ((b || false) || (b || false))) [ true ↦ refl | false ↦ refl ]))

    decides : (a b : Flat V) → events_of a ≡ events_of b → a ≡ b
    decides Bottom Bottom e = refl
    decides Bottom (Value y) e = absurd cc
    decides (Value x) Bottom e = absurd cc
    decides (Value x) (Value y) e = cc

    rises : (cmp : V → V → Ordering) (a : Flat V) → IsStrictlySortedBy cmp (events_of a)
    unfolding IsStrictlySortedBy
    rises cmp Bottom = tt
    rises cmp (Value x) = (tt, tt)

    pub flat_has_events : (cmp : V → V → Ordering) → HasEvents Bottom (joined eq) eq cmp (events_of {V = V})
    flat_has_events cmp = record {
      none = refl;
      ascending = λ a. rises cmp a;
      union = λ a b c e. unites a b c e;
      determine = λ a b e. decides a b e;
    }

-- at or below a value are bottom and itself
below_value : {V : Type 0} (eq : V → V → Bool) → IsIdentity eq → (x y : V) → IsAtOrBelow (joined eq) (Value x) (Value y) → x ≡ y
below_value eq same x y e = same_of (eq x y) refl e
  where
    same_of : (b : Bool) → eq x y ≡ b → cond b (Some (Value x)) None ≡ Some (Value y) → x ≡ y
    same_of true is e = same x y is
    same_of false is e = absurd cc

module _ {V : Type 0} (eq : V → V → Bool) (same : IsIdentity eq) (laws : IsEquivalence eq) where
  itself : (x : V) → IsAtOrBelow (joined eq) (Value x) (Value x)
  itself x = ap (λ b. cond b (Some (Value x)) None) (laws.refl x)

  pub flat_answers : (r : FlatRead V) → IsChecked (joined eq) (Member r) → IsAnswered (joined eq) (Member r) (answer_of eq r)
  flat_answers r checked Bottom a = (λ e. absurd cc, λ m. nothing m.0 m.1 m.2)
    where
      nothing : (m : Flat V) → Member r m a → IsAtOrBelow (joined eq) m Bottom → answer_of eq r Bottom ≡ Some a
      nothing Bottom p q = absurd p
      nothing (Value x) p q = absurd cc
  flat_answers Any checked (Value x) a = (λ e. (Value x, cc, itself x), λ m. only m.0 m.1 m.2)
    where
      only : (m : Flat V) → Member Any m a → IsAtOrBelow (joined eq) m (Value x) → Some x ≡ Some a
      only Bottom p q = absurd p
      only (Value y) p q = ap (λ (v : V). Some v) (sym (below_value eq same y x q) ∙ p)
  flat_answers (In xs) checked (Value x) a =
      (λ e. let s = cond_some (list_any (eq x) xs) x a e in (Value x, (s.1, Contains-from_any same x xs s.0), itself x), λ m. only m.0 m.1 m.2)
    where
      only : (m : Flat V) → Member (In xs) m a → IsAtOrBelow (joined eq) m (Value x) → answer_of eq (In xs) (Value x) ≡ Some a
      only Bottom p q = absurd p
      only (Value y) p q = let s : y ≡ x = below_value eq same y x q in
          ap (λ b. cond b (Some x) None) (list_any-from_Contains laws x xs (subst (λ (v : V). Contains xs v) s p.1)) ∙ ap (λ (v : V). Some v) (sym s ∙ p.0)

  -- two members are two values, so every read is checked
  pub flat_checked : (r : FlatRead V) → IsChecked (joined eq) (Member r)
  flat_checked r Bottom n a b p q = absurd p
  flat_checked r (Value x) Bottom a b p q = absurd q
  flat_checked r (Value x) (Value y) a b p q = by_test (eq x y) refl
    where
      answer_is : (s : FlatRead V) (z c : V) → Member s (Value z) c → z ≡ c
      answer_is Any z c h = h
      answer_is (In zs) z c h = h.0

      by_test : (t : Bool) → eq x y ≡ t → (a ≡ b) ⊎ (joined eq (Value x) (Value y) ≡ None)
      by_test true is = inl (sym (answer_is r x a p) ∙ same x y is ∙ answer_is r y b q)
      by_test false is = inr (ap (λ t. cond t (Some (Value x)) None) is)

  same_answer : (r : FlatRead V) (x y a : V) → eq x y ≡ true → answer_of eq r (Value y) ≡ None → answer_of eq r (Value x) ≡ Some a → ⊥
  same_answer r x y a is none some = none-some a (sym (ap (λ (v : V). answer_of eq r (Value v)) (same x y is) ∙ none) ∙ some)

  pub flat_waits : IsWatched eq events_of spot_of watched (answer_of eq)
  flat_waits r w is old Bottom a none some = absurd cc
  flat_waits r w is Bottom (Value x) a none some = record { event = x; there = ap (λ b. b || false) (laws.refl x); missing = refl; at = refl }
  flat_waits r w is (Value y) (Value x) a none some = record { event = x; there = ap (λ b. b || false) (laws.refl x); missing = by_test (eq x y) refl; at = refl }
    where
      by_test : (t : Bool) → eq x y ≡ t → (eq x y || false) ≡ false
      by_test true h = absurd (same_answer r x y a h none some)
      by_test false h = ap (λ b. b || false) h
