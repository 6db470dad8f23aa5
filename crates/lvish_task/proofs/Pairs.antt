-- Two lists of one length, compared pair by pair.
use Rattle.std.proofs.Common.{◌≡◌, ℕ, ◌+◌, ◌<◌, ◌≤◌, Bool, true, false, not, ◌&&◌, List, [], ◌∷◌, drop, length, Option, zero, suc, refl, sym, ◌∙◌, ap, arith, add-one}
use Rattle.std.specs.Cmp.Lexicographic.{pointwise}
use Rattle.std.specs.List.{slice_get}
use Rattle.std.specs.Option.{option_eq}
use Rattle.std.proofs.lemmas.List.{drop_all}

-- what isn't told apart is equal
pub told : (b : Bool) → false ≡ not b → b ≡ true
told true e = refl
told false e = absurd cc

module _ {X : Type 0} (eq : X → X → Bool) where
  -- what is left is equal where the next pair and what is left behind it are
  next_pair : (i : ℕ) (xs ys : List X) → length xs ≡ length ys → i < length xs → pointwise eq (drop i xs) (drop i ys) ≡ (option_eq eq (slice_get xs i) (slice_get ys i) && pointwise eq (drop (suc i) xs) (drop (suc i) ys))
  next_pair i [] ys long lt = absurd (omega arith)
  next_pair i (x ∷ xs) [] long lt = absurd (omega arith)
  next_pair zero (x ∷ xs) (y ∷ ys) long lt = refl
  next_pair (suc i) (x ∷ xs) (y ∷ ys) long lt = next_pair i xs ys (omega arith) (omega arith)

  module _ (xs ys : List X) (long : length xs ≡ length ys) (i : ℕ) (h : pointwise eq xs ys ≡ pointwise eq (drop i xs) (drop i ys)) where
    module _ (lt : i < length xs) (a b : Option X) (first : a ≡ slice_get xs i) (second : b ≡ slice_get ys i) where
      -- the pair in front of the others
      split : pointwise eq xs ys ≡ (option_eq eq a b && pointwise eq (drop (i + 1) xs) (drop (i + 1) ys))
      split = h ∙ next_pair i xs ys long lt ∙ λ k. option_eq eq (sym first k) (sym second k) && pointwise eq (drop (sym (add-one i) k) xs) (drop (sym (add-one i) k) ys)

      -- one pair more is equal
      pub pair_equal : false ≡ not (option_eq eq a b) → pointwise eq xs ys ≡ pointwise eq (drop (i + 1) xs) (drop (i + 1) ys)
      pair_equal e = split ∙ ap (λ t. t && pointwise eq (drop (i + 1) xs) (drop (i + 1) ys)) (told (option_eq eq a b) e)

      -- a pair differs
      pub pair_differs : true ≡ not (option_eq eq a b) → false ≡ pointwise eq xs ys
      pair_differs e = sym (split ∙ by (option_eq eq a b) e)
        where
          by : (t : Bool) → true ≡ not t → (t && pointwise eq (drop (i + 1) xs) (drop (i + 1) ys)) ≡ false
          by true e = absurd cc
          by false e = refl

    -- all pairs are equal
    pub pairs_equal : length xs ≤ i → true ≡ pointwise eq xs ys
    pairs_equal le = sym (h ∙ λ k. pointwise eq (drop_all i xs le k) (drop_all i ys (omega arith) k))
