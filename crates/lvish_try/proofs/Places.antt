-- Texts of outcomes, by their places.
use Rattle.std.proofs.Common.{◌≡◌, ◌+◌, ◌<◌, ◌≤◌, ◌⊎◌, inl, inr, ℕ, suc, zero, Option, List, [], ◌∷◌, ◌++◌, length, get_or, Some, None, map, option_map, true, false, refl, sym, ap, ◌∙◌, subst, arith}
use Rattle.std.proofs.Math.ListN.{set}
use Rattle.std.proofs.Math.Nat.{eq-or-lt_of_le}
use Rattle.std.proofs.lemmas.Bool.{both_ways}
use Rattle.std.proofs.lemmas.Option.{none-some, slice_get_read, slice_get_within, get_or_from_slice_get, slice_get-map}
use Rattle.std.proofs.lemmas.Slice.Eq.{bytes_eq-Decides}
use Rattle.std.specs.List.{slice_get}
use Rattle.std.specs.Str.{bytes_eq}
use Rattle.lvish_calculus.proofs.Sound.{some_is}

-- the text doesn't stand before this place
abbrev pub IsNotBefore : List (List ℕ) → List ℕ → ℕ → Type 0
IsNotBefore texts text place = (k : ℕ) → k < place → slice_get texts k ≡ Some text → ⊥

module _ (texts : List (List ℕ)) (text : List ℕ) where
  module _ (place : ℕ) (x : List ℕ) (within : place < length texts) (is : x ≡ get_or texts place x) where
    -- it is found
    pub found_at : bytes_eq x text ≡ true → slice_get texts place ≡ Some text
    found_at t = slice_get_read texts (length texts) place x refl within is ∙ ap (λ (y : List ℕ). Some y) ((bytes_eq-Decides x text).0 t)

    -- or it isn't there
    pub not_at : bytes_eq x text ≡ false → IsNotBefore texts text place → IsNotBefore texts text (place + 1)
    not_at other before k less at = by (eq-or-lt_of_le (omega (arith, less)))
      where
        by : (k ≡ place) ⊎ (k < place) → ⊥
        by (inl same) =
            let here : get_or texts place x ≡ text = get_or_from_slice_get texts place text x (subst (λ n. slice_get texts n ≡ Some text) same at) in
            both_ways _ other ((bytes_eq-Decides x text).1 (is ∙ here))
        by (inr earlier) = before k earlier at

  -- at no place up to the end
  pub nowhere : (n : ℕ) → length texts ≤ n → IsNotBefore texts text n → (k : ℕ) → slice_get texts k ≡ Some text → ⊥
  nowhere n past none k at = none k (omega (arith, past, slice_get_within texts k text at)) at

module _ {F : Type 0} (told : F → List ℕ) where
  -- the text of another outcome behind those of some
  pub told_push : (found : List F) (f : F) → map told (found ++ f ∷ []) ≡ map told found ++ told f ∷ []
  told_push [] f = refl
  told_push (g ∷ found) f = ap (λ ts. told g ∷ ts) (told_push found f)

  -- the texts stay where an outcome is replaced by one with the same text
  pub told_set : (found : List F) (place : ℕ) (f g : F) → slice_get found place ≡ Some f → told g ≡ told f → map told (set found place g) ≡ map told found
  told_set [] place f g at same = refl
  told_set (x ∷ found) zero f g at same = ap (λ t. t ∷ map told found) (same ∙ sym (ap told (some_is at)))
  told_set (x ∷ found) (suc place) f g at same = ap (λ ts. told x ∷ ts) (told_set found place f g at same)

  module _ (found : List F) (texts : List (List ℕ)) (are : texts ≡ map told found) (text : List ℕ) where
    told_at : (k : ℕ) → slice_get texts k ≡ option_map told (slice_get found k)
    told_at k = ap (λ ts. slice_get ts k) are ∙ slice_get-map told found k

    one_by : (k : ℕ) (o : Option F) → slice_get found k ≡ o → option_map told o ≡ Some text → (f : F) × (slice_get found k ≡ Some f) × (told f ≡ text)
    one_by k None is at = absurd (none-some text at)
    one_by k (Some f) is at = (f, is, some_is at)

    -- where the text stands, an outcome with it stands
    pub one_with : (k : ℕ) → slice_get texts k ≡ Some text → (f : F) × (slice_get found k ≡ Some f) × (told f ≡ text)
    one_with k at = one_by k (slice_get found k) refl (sym (told_at k) ∙ at)

    -- where it stands nowhere, no outcome has it
    pub none_with : ((k : ℕ) → slice_get texts k ≡ Some text → ⊥) → (k : ℕ) (f : F) → slice_get found k ≡ Some f → told f ≡ text → ⊥
    none_with none k f at same = none k (told_at k ∙ ap (option_map told) at ∙ ap (λ (t : List ℕ). Some t) same)
