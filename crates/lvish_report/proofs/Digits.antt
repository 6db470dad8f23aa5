-- Numbers by their digits.
use Rattle.std.proofs.Common.{◌≡◌, ◌+◌, ◌/◌, ◌%◌, ◌<◌, ◌≤◌, ℕ, List, [], ◌∷◌, ◌++◌, decimal, append_assoc, sym, ap, ◌∙◌, arith}
use Rattle.std.proofs.lemmas.Fmt.{decimal_digit, decimal_step}

-- one digit
pub one_digit : (n : ℕ) (xs ys : List ℕ) → n < 10 → ys ≡ xs ++ (48 + n) ∷ [] → ys ≡ xs ++ decimal n
one_digit n xs ys small is = is ∙ ap (λ ds. xs ++ ds) (sym (decimal_digit n small))

-- the last digit behind the others
pub last_digit : (n : ℕ) (xs ys zs : List ℕ) → 10 ≤ n → n < 10000 → ys ≡ xs ++ decimal (n / 10) → zs ≡ ys ++ (48 + n % 10) ∷ [] → zs ≡ xs ++ decimal n
last_digit n xs ys zs two small others last =
    last ∙ ap (λ l. l ++ (48 + n % 10) ∷ []) others ∙ append_assoc xs (decimal (n / 10)) ((48 + n % 10) ∷ []) ∙ ap (λ ds. xs ++ ds) (sym (decimal_step n two (omega (arith, small))))

-- two digits
pub two_digits : (n : ℕ) (xs ys zs : List ℕ) → 10 ≤ n → n < 100 → ys ≡ xs ++ (48 + n / 10) ∷ [] → zs ≡ ys ++ (48 + n % 10) ∷ [] → zs ≡ xs ++ decimal n
two_digits n xs ys zs two small first last = last_digit n xs ys zs two (omega (arith, small)) (one_digit (n / 10) xs ys (omega (arith, small)) first) last

-- two digits behind the others
pub four_digits : (n : ℕ) (xs ys zs ws : List ℕ) → 100 ≤ n → n < 10000 → ys ≡ xs ++ decimal (n / 100) → zs ≡ ys ++ (48 + n / 10 % 10) ∷ [] → ws ≡ zs ++ (48 + n % 10) ∷ [] → ws ≡ xs ++ decimal n
four_digits n xs ys zs ws three small first tens last =
    let same : n / 100 ≡ n / 10 / 10 = omega arith in
    last_digit n xs zs ws (omega (arith, three)) small (last_digit (n / 10) xs ys zs (omega (arith, three)) (omega (arith, small)) (first ∙ ap (λ k. xs ++ decimal k) same) tens) last
