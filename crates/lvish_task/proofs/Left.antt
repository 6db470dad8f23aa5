-- What is left of a list from a place on.
use Rattle.std.proofs.Common.{◌≡◌, ℕ, ◌+◌, ◌-◌, List, [], ◌∷◌, take, drop, length, refl, sym, ◌∙◌, ap, arith}
use Rattle.std.specs.Prelude.{MatchOption}
use Rattle.std.specs.List.{slice_get}
use Rattle.std.proofs.lemmas.List.{take_all, drop-drop, length-drop}

-- as a slice of the list
pub from_on : {X : Type 0} (n : ℕ) (xs ys : List X) → xs ≡ ys → take (length xs - n) (drop n xs) ≡ drop n ys
from_on n xs ys e = take_all _ _ (omega (arith, length-drop n xs)) ∙ ap (drop n) e

-- behind a first element
pub rest_left : {X : Type 0} (n : ℕ) (xs more : List X) (x : X) → drop n xs ≡ x ∷ more → drop n xs ≡ x ∷ drop (n + 1) xs
rest_left n xs more x e = e ∙ λ k. x ∷ (sym (ap (drop 1) e) ∙ drop-drop 1 n xs) k

-- a first element, if there is one
pub first_got : {X : Type 0} (xs : List X) → MatchOption (slice_get xs 0) (xs ≡ []) (λ x. (more : List X) × (xs ≡ x ∷ more))
first_got [] = refl
first_got (x ∷ xs) = (xs, refl)
