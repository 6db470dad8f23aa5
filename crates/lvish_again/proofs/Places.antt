-- The place of a label in a list.
use Rattle.std.proofs.Common.{◌≡◌, ◌+◌, ◌<◌, ◌≤◌, ◌⊎◌, inl, inr, ℕ, suc, Bool, true, false, List, [], ◌∷◌, length, get_or, Some, refl, sym, ap, ◌∙◌, subst, arith}
use Rattle.std.proofs.lemmas.Bool.{and_parts, and_from, both_ways, false≢true}
use Rattle.std.proofs.lemmas.Option.{slice_get_read, slice_get_within, get_or_from_slice_get}
use Rattle.std.proofs.Math.Nat.{eq-or-lt_of_le}
use Rattle.std.specs.List.{slice_get}
use Rattle.lvish_names.proofs.NameLaws.{same_name-true, same_handler-true, same_name-refl, same_handler-refl}
use Rattle.lvish_lattice.specs.Lattice.{IsIdentity}
use Rattle.lvish_calculus.specs.declared.label.Label.{Label}
use Rattle.lvish_calculus.specs.declared.label.Label.TheVariants.{Act, Hand}
use Rattle.lvish_calculus.specs.Handing.{IsAmong}
use Rattle.lvish_again.specs.Walk.{same_label}

-- an element that is at no place is none of them
at_no_place : {X : Type 0} (xs : List X) (x : X) → ((j : ℕ) → slice_get xs j ≡ Some x → ⊥) → IsAmong x xs → ⊥
at_no_place [] x none i = i
at_no_place (y ∷ xs) x none (inl e) = none 0 (ap (λ z. Some z) (sym e))
at_no_place (y ∷ xs) x none (inr i) = at_no_place xs x (λ j at. none (suc j) at) i

module _ {E : Type 0} (eq : E → E → Bool) where
  -- labels that pass the test are one
  same_label-true : IsIdentity eq → (l k : Label E) → same_label eq l k ≡ true → l ≡ k
  same_label-true same (Act t) (Act u) e = ap Act (same_name-true same t u e)
  same_label-true same (Act t) (Hand k f) e = absurd (false≢true e)
  same_label-true same (Hand h x) (Act u) e = absurd (false≢true e)
  same_label-true same (Hand h x) (Hand k f) e =
      let p = and_parts _ _ e in
      let q : h ≡ k = same_handler-true same h k p.0 in
      let r : x ≡ f = same x f p.1 in
      λ i. Hand (q i) (r i)

  -- each label passes it with itself
  same_label-refl : ((e : E) → eq e e ≡ true) → (l : Label E) → same_label eq l l ≡ true
  same_label-refl own (Act t) = same_name-refl eq own t
  same_label-refl own (Hand h x) = and_from _ _ (same_handler-refl eq own h) (own x)

  module _ (labels : List (Label E)) (l : Label E) where
    -- it isn't among the first labels
    abbrev pub IsNotBefore : ℕ → Type 0
    IsNotBefore k = (j : ℕ) → j < k → slice_get labels j ≡ Some l → ⊥

    module _ (k : ℕ) (x : Label E) (within : k < length labels) (is : x ≡ get_or labels k x) where
      -- it is found
      pub found_at : IsIdentity eq → same_label eq x l ≡ true → slice_get labels k ≡ Some l
      found_at same t = slice_get_read labels (length labels) k x refl within is ∙ ap (λ (y : Label E). Some y) (same_label-true same x l t)

      -- or it isn't there
      pub not_at : ((e : E) → eq e e ≡ true) → same_label eq x l ≡ false → IsNotBefore k → IsNotBefore (k + 1)
      not_at own f before j less at = by (eq-or-lt_of_le (omega (arith, less)))
        where
          by : (j ≡ k) ⊎ (j < k) → ⊥
          by (inl same) =
              let here : get_or labels k x ≡ l = get_or_from_slice_get labels k l x (subst (λ n. slice_get labels n ≡ Some l) same at) in
              both_ways _ f (subst (λ y. same_label eq y l ≡ true) (sym (is ∙ here)) (same_label-refl own l))
          by (inr earlier) = before j earlier at

    -- at no place up to the end
    pub nowhere : (n : ℕ) → length labels ≤ n → IsNotBefore n → IsAmong l labels → ⊥
    nowhere n past none = at_no_place labels l (λ j at. none j (omega (arith, past, slice_get_within labels j l at)) at)
