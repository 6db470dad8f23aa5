-- Loops that look for the first that a function gives of a list's items.
use Rattle.std.proofs.Common.{◌≡◌, inl, ℕ, ◌+◌, ◌<◌, ◌≤◌, true, false, List, [], ◌∷◌, Option, Some, None, length, get_or, drop, refl, sym, ap, ◌∙◌}
use Rattle.std.specs.Prelude.{is_some, IfSome}
use Rattle.std.specs.List.{slice_get, filter_map, cons_option}
use Rattle.std.proofs.lemmas.List.{drop_all, drop_more}
use Rattle.lvish_calculus.specs.Handing.{IsAmong}

none_is : {X : Type 0} (o : Option X) → is_some o ≡ false → o ≡ None
none_is None e = refl
none_is (Some x) e = absurd (cc e)

pub if_some : {X : Type 0} (o : Option X) (P : X → Type 0) → ((x : X) → o ≡ Some x → P x) → IfSome o P
if_some None P h = tt
if_some (Some x) P h = h x refl

-- what stands first is among all
pub first_among : (o : Option ℕ) (ks : List ℕ) → o ≡ slice_get ks 0 → (k : ℕ) → o ≡ Some k → IsAmong k ks
first_among o [] e k s = absurd (cc (sym s ∙ e))
first_among o (x ∷ ks) e k s = let same : Some k ≡ Some x = sym s ∙ e in inl (cc same)

-- where nothing stands first, there is nothing
pub none_first : (o : Option ℕ) (ks : List ℕ) → o ≡ slice_get ks 0 → is_some o ≡ false → ks ≡ []
none_first o [] e s = refl
none_first o (x ∷ ks) e s = absurd (cc (sym (none_is o s) ∙ e))

module _ {X : Type 0} (f : X → Option ℕ) (xs : List X) (i : ℕ) where
  given : (x : X) → i < length xs → x ≡ get_or xs i x → filter_map f (drop i xs) ≡ cons_option (f x) (filter_map f (drop (i + 1) xs))
  given x lt is = ap (filter_map f) (drop_more xs i x lt) ∙ ap (λ y. cons_option (f y) (filter_map f (drop (i + 1) xs))) (sym is)

  -- this item gives nothing: the same is left
  pub none_more : {ks : List ℕ} (x : X) (o : Option ℕ) → i < length xs → x ≡ get_or xs i x → o ≡ f x → is_some o ≡ false → filter_map f (drop i xs) ≡ ks → filter_map f (drop (i + 1) xs) ≡ ks
  none_more x o lt is e none h = ap (λ o. cons_option o (filter_map f (drop (i + 1) xs))) (sym (none_is o none) ∙ e) ∙ sym (given x lt is) ∙ h

  -- this item gives the first
  pub first_here : {ks : List ℕ} (x : X) (o : Option ℕ) → i < length xs → x ≡ get_or xs i x → o ≡ f x → is_some o ≡ true → filter_map f (drop i xs) ≡ ks → o ≡ slice_get ks 0
  first_here x o lt is e some h = by o some e ∙ ap (λ l. slice_get l 0) (sym (given x lt is) ∙ h)
    where
      by : (o : Option ℕ) → is_some o ≡ true → o ≡ f x → o ≡ slice_get (cons_option (f x) (filter_map f (drop (i + 1) xs))) 0
      by None s e = absurd (cc s)
      by (Some k) s e = ap (λ o. slice_get (cons_option o (filter_map f (drop (i + 1) xs))) 0) e

  -- no item is left
  pub none_left : {ks : List ℕ} → length xs ≤ i → filter_map f (drop i xs) ≡ ks → None ≡ slice_get ks 0
  none_left le h = ap (λ l. slice_get l 0) (ap (filter_map f) (sym (drop_all i xs le)) ∙ h)
