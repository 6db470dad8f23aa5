-- A list of equal elements, made one by one.
use Rattle.std.proofs.Common.{◌≡◌, ◌≤◌, ◌+◌, ℕ, List, [], ◌∷◌, ◌++◌, replicate, ap, ◌∙◌, arith}
use Rattle.std.proofs.lemmas.List.{replicate_more}

-- with one more
pub repeated_more : {X : Type 0} (n : ℕ) (y x : X) (xs ys : List X) → xs ≡ replicate n y → x ≡ y → ys ≡ xs ++ x ∷ [] → ys ≡ replicate (n + 1) y
repeated_more n y x xs ys so_far same more = more ∙ ap (λ l. l ++ x ∷ []) so_far ∙ ap (λ z. replicate n y ++ z ∷ []) same ∙ replicate_more n y

-- with all
pub repeated_all : {X : Type 0} (n m : ℕ) (y : X) (xs : List X) → xs ≡ replicate n y → m ≤ n → n ≤ m → xs ≡ replicate m y
repeated_all n m y xs so_far ge le = let same : n ≡ m = omega arith in so_far ∙ ap (λ k. replicate k y) same
