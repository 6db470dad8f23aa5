-- Where a piece of a list of pieces stands, and what holds of an answer.
use Rattle.std.proofs.Common.{◌≡◌, ℕ, zero, suc, List, [], ◌∷◌, ◌++◌, length, take, Some, Result, Ok, Err, IfOk, refl, ap, ◌∙◌}
use Rattle.std.proofs.lemmas.Option.{none-some}
use Rattle.std.specs.List.{flat_map, slice_get}

-- what stands behind the same front
past : {A : Type 0} (xs ys zs : List A) → slice_get (xs ++ ys) (length (xs ++ zs)) ≡ slice_get ys (length zs)
past [] ys zs = refl
past (x ∷ xs) ys zs = past xs ys zs

-- a piece of one element stands behind all pieces before it
pub at_piece : {X A : Type 0} (f : X → List A) (xs : List X) (i : ℕ) (x : X) (a : A) → slice_get xs i ≡ Some x → f x ≡ a ∷ [] → slice_get (flat_map f xs) (length (flat_map f (take i xs))) ≡ Some a
at_piece f [] i x a there is = absurd (none-some x there)
at_piece f (y ∷ xs) zero x a there is =
    let same : y ≡ x = cc there in
    ap (λ l. slice_get (l ++ flat_map f xs) 0) (ap f same ∙ is)
at_piece f (y ∷ xs) (suc i) x a there is = past (f y) (flat_map f xs) (flat_map f (take i xs)) ∙ at_piece f xs i x a there is

-- what holds of an answer, and what else does
pub both_ok : {A E : Type 0} (r : Result A E) (P Q : A → Type 0) → IfOk r P → IfOk r Q → IfOk r (λ a. P a × Q a)
both_ok (Ok a) P Q p q = (p, q)
both_ok (Err e) P Q p q = tt
