-- Where elements stand in lists.
use Rattle.std.proofs.Common.{◌≡◌, ℕ, zero, suc, ◌+◌, ◌<◌, Bool, true, false, not, ◌||◌, cond, List, [], ◌∷◌, length, map, Some, refl, sym, ap, ◌∙◌, arith}
use Rattle.std.specs.Prelude.{if◌then◌else◌}
use Rattle.std.specs.List.{position_or_len, list_any, list_all, slice_get}
use Rattle.std.proofs.lemmas.Bool.{and_parts, or_parts}

module _ {X : Type 0} (p : X → Bool) where
  -- an element passes a test that all pass
  pub list_all_get : (xs : List X) (i : ℕ) (x : X) → list_all p xs ≡ true → slice_get xs i ≡ Some x → p x ≡ true
  list_all_get [] i x h e = absurd cc
  list_all_get (y ∷ ys) zero x h e = let s : y ≡ x = cc in ap p (sym s) ∙ (and_parts _ _ h).0
  list_all_get (y ∷ ys) (suc i) x h e = list_all_get ys i x (and_parts _ _ h).1 e

  -- no element passes a test that none passes
  pub none_get : (xs : List X) (i : ℕ) (x : X) → list_any p xs ≡ false → slice_get xs i ≡ Some x → p x ≡ false
  none_get [] i x h e = absurd cc
  none_get (y ∷ ys) zero x h e = let s : y ≡ x = cc in ap p (sym s) ∙ (or_parts _ _ h).0
  none_get (y ∷ ys) (suc i) x h e = none_get ys i x (or_parts _ _ h).1 e

  pub place_below : (xs : List X) → list_any p xs ≡ true → position_or_len p xs < length xs
  place_below [] e = absurd cc
  place_below (x ∷ xs) e = go (p x) (place_below xs) e
    where
      go : (b : Bool) → (list_any p xs ≡ true → position_or_len p xs < length xs) → (b || list_any p xs) ≡ true → cond (not b) (1 + position_or_len p xs) 0 < suc (length xs)
      go true h e = omega arith
      go false h e = let k = h e in omega arith

pub place_map : {X Y : Type 0} (f : Y → X) (p : X → Bool) (ys : List Y) → position_or_len p (map f ys) ≡ position_or_len (λ y. p (f y)) ys
place_map f p [] = refl
place_map f p (y ∷ ys) = ap (λ n. cond (not (p (f y))) (1 + n) 0) (place_map f p ys)

-- the element at a place that a search finds
pub get_found : {X : Type 0} (x : X) (xs : List X) (b : Bool) (n : ℕ) → slice_get (x ∷ xs) (cond (not b) (1 + n) 0) ≡ (if b then Some x else slice_get xs n)
get_found x xs true n = refl
get_found x xs false n = let next : 1 + n ≡ suc n = omega arith in ap (slice_get (x ∷ xs)) next
