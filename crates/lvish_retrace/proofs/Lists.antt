-- Places in lists, and last elements.
use Rattle.std.proofs.Common.{◌≡◌, ◌⊎◌, ◌<◌, ◌≤◌, inl, inr, ℕ, suc, zero, List, [], ◌∷◌, ◌++◌, length, Some, refl, sym, ap, ◌∙◌, arith, get_or, length-append}
use Rattle.std.proofs.lemmas.Option.{none-some, slice_get-get_or, slice_get_within}
use Rattle.std.specs.List.{slice_get}
use Rattle.lvish_calculus.specs.Handing.{IsAmong}

module _ {X : Type 0} where
  -- what stands at the place behind a list's first elements is the first of the others
  pub left_at : (done left : List X) (x : X) → slice_get (done ++ left) (length done) ≡ Some x → (rest : List X) × (left ≡ x ∷ rest)
  left_at [] [] x at = absurd (none-some x at)
  left_at [] (y ∷ left) x at = let same : y ≡ x = cc in (left, ap (λ z. z ∷ left) same)
  left_at (y ∷ done) left x at = left_at done left x at

  -- nothing is left behind the last place
  pub none_left : (done left : List X) → length (done ++ left) ≤ length done → left ≡ []
  none_left done [] le = refl
  none_left done (x ∷ left) le = absurd (omega (arith, le, length-append done (x ∷ left)))

  -- the elements of a list stay at their places where more come behind
  pub stays_at : (xs ys : List X) (k : ℕ) → k < length xs → slice_get (xs ++ ys) k ≡ slice_get xs k
  stays_at [] ys k less = absurd (omega (arith, less))
  stays_at (x ∷ xs) ys zero less = refl
  stays_at (x ∷ xs) ys (suc k) less = stays_at xs ys k (omega (arith, less))

  pub last_at : (xs : List X) (x : X) → slice_get (xs ++ x ∷ []) (length xs) ≡ Some x
  last_at [] x = refl
  last_at (y ∷ xs) x = last_at xs x

  -- behind a list's elements stands the one that was added, and no other
  pub at_or_last : (xs : List X) (z : X) (k : ℕ) (x : X) → slice_get (xs ++ z ∷ []) k ≡ Some x → (slice_get xs k ≡ Some x) ⊎ ((k ≡ length xs) × (z ≡ x))
  at_or_last [] z zero x at = inr (refl, cc)
  at_or_last [] z (suc k) x at = absurd (none-some x at)
  at_or_last (y ∷ xs) z zero x at = inl at
  at_or_last (y ∷ xs) z (suc k) x at = elim (at_or_last xs z k x at) [ inl e ↦ inl e | inr (e, s) ↦ inr (ap suc e, s) ]

  -- a list without its last element
  abbrev init : List X → List X
  init [] = []
  init (x ∷ []) = []
  init (x ∷ y ∷ ys) = x ∷ init (y ∷ ys)

  init_more : (xs : List X) (z : X) → init (xs ++ z ∷ []) ≡ xs
  init_more [] z = refl
  init_more (x ∷ []) z = refl
  init_more (x ∷ y ∷ ys) z = ap (λ w. x ∷ w) (init_more (y ∷ ys) z)

  -- what stands before one element behind is the same in equal lists
  pub same_before : (xs ys : List X) (x y : X) → xs ++ x ∷ [] ≡ ys ++ y ∷ [] → xs ≡ ys
  same_before xs ys x y e = sym (init_more xs x) ∙ ap init e ∙ init_more ys y

  -- a list is empty, or has a last element
  pub last_of : (xs : List X) → (xs ≡ []) ⊎ ((ys : List X) × (y : X) × (xs ≡ ys ++ y ∷ []))
  last_of [] = inl refl
  last_of (x ∷ xs) = elim (last_of xs) [
    | inl e ↦ inr ([], x, ap (λ w. x ∷ w) e)
    | inr (ys, y, e) ↦ inr (x ∷ ys, y, ap (λ w. x ∷ w) e)
  ]

  -- lists of one length have something at the same places
  pub there_too : (xs ys : List X) (k : ℕ) (x : X) → length xs ≡ length ys → slice_get xs k ≡ Some x → (z : X) × (slice_get ys k ≡ Some z)
  there_too xs ys k x same at =
      let within : k < length xs = slice_get_within xs k x at in
      (get_or ys k x, slice_get-get_or ys k x (omega (arith, within, same)))

  -- what stands at a place is an element
  pub among_at : (xs : List X) (k : ℕ) (x : X) → slice_get xs k ≡ Some x → IsAmong x xs
  among_at [] k x at = absurd (none-some x at)
  among_at (y ∷ xs) zero x at = inl cc
  among_at (y ∷ xs) (suc k) x at = inr (among_at xs k x at)
