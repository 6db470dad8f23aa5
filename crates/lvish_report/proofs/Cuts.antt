-- Where a text is cut at a character.
use Rattle.std.proofs.Common.{◌≡◌, ◌⊎◌, inl, inr, ℕ, suc, ℤ, pos, negsuc, ◌<◌, ◌^◌, List, [], ◌∷◌, ◌++◌, refl, sym, subst, arith}
use Rattle.std.specs.Fmt.{decimal, signed_decimal}
use Rattle.std.specs.Int.Signed.{mag}
use Rattle.std.specs.Str.Parse.{AllDigits}
use Rattle.std.proofs.lemmas.Fmt.{decimal_is_IsNumeral}
use Rattle.std.proofs.lemmas.Str.Parse.{digit_from_value}

-- the character isn't in the text
abbrev pub IsFree : ℕ → List ℕ → Type 0
IsFree ch [] = Unit {0}
IsFree ch (x ∷ xs) = (x ≡ ch → ⊥) × IsFree ch xs

pub free_append : (ch : ℕ) (xs ys : List ℕ) → IsFree ch xs → IsFree ch ys → IsFree ch (xs ++ ys)
free_append ch [] ys a b = b
free_append ch (x ∷ xs) ys a b = (a.0, free_append ch xs ys a.1 b)

-- a text with the character isn't free of it
not_free : (ch : ℕ) (xs ys : List ℕ) → IsFree ch (xs ++ ch ∷ ys) → ⊥
not_free ch [] ys a = a.0 refl
not_free ch (x ∷ xs) ys a = not_free ch xs ys a.1

pub first_is : (x y : ℕ) (xs ys : List ℕ) → x ∷ xs ≡ y ∷ ys → x ≡ y
first_is x y xs ys e = cc e

pub rest_is : (x y : ℕ) (xs ys : List ℕ) → x ∷ xs ≡ y ∷ ys → xs ≡ ys
rest_is x y xs ys e = cc e

-- texts that agree, cut at the first such character
pub cut_first : (ch : ℕ) (xs ys p q : List ℕ) → IsFree ch xs → IsFree ch ys → xs ++ ch ∷ p ≡ ys ++ ch ∷ q → (xs ≡ ys) × (p ≡ q)
cut_first ch [] [] p q a b e = (refl, rest_is ch ch p q e)
cut_first ch [] (y ∷ ys) p q a b e = absurd (b.0 (sym (first_is ch y p (ys ++ ch ∷ q) e)))
cut_first ch (x ∷ xs) [] p q a b e = absurd (a.0 (first_is x ch (xs ++ ch ∷ p) q e))
cut_first ch (x ∷ xs) (y ∷ ys) p q a b e =
    let g = cut_first ch xs ys p q a.1 b.1 (rest_is x y (xs ++ ch ∷ p) (ys ++ ch ∷ q) e) in
    ((λ i. first_is x y (xs ++ ch ∷ p) (ys ++ ch ∷ q) e i ∷ g.0 i), g.1)

-- and at the last
pub cut_last : (ch : ℕ) (xs ys p q : List ℕ) → IsFree ch p → IsFree ch q → xs ++ ch ∷ p ≡ ys ++ ch ∷ q → (xs ≡ ys) × (p ≡ q)
cut_last ch [] [] p q a b e = (refl, rest_is ch ch p q e)
cut_last ch [] (y ∷ ys) p q a b e = absurd (not_free ch ys q (subst (IsFree ch) (rest_is ch y p (ys ++ ch ∷ q) e) a))
cut_last ch (x ∷ xs) [] p q a b e = absurd (not_free ch xs p (subst (IsFree ch) (sym (rest_is x ch (xs ++ ch ∷ p) q e)) b))
cut_last ch (x ∷ xs) (y ∷ ys) p q a b e =
    let g = cut_last ch xs ys p q a b (rest_is x y (xs ++ ch ∷ p) (ys ++ ch ∷ q) e) in
    ((λ i. first_is x y (xs ++ ch ∷ p) (ys ++ ch ∷ q) e i ∷ g.0 i), g.1)

-- a text that is free of the character isn't cut at it
pub not_cut : (ch : ℕ) (xs p q : List ℕ) → IsFree ch xs → xs ≡ p ++ ch ∷ q → ⊥
not_cut ch xs p q a e = not_free ch p q (subst (IsFree ch) e a)

-- ---- numbers

-- a character that is no digit
abbrev pub IsNoDigit : ℕ → Type 0
IsNoDigit ch = (ch < 48) ⊎ (57 < ch)

free_digits : (ch : ℕ) → IsNoDigit ch → (ds : List ℕ) → AllDigits 10 ds → IsFree ch ds
free_digits ch apart [] d = tt
free_digits ch apart (c ∷ cs) d = (λ e. elim apart [ inl a ↦ absurd (omega (arith, a, e, digit_from_value c d.0)) | inr a ↦ absurd (omega (arith, a, e, digit_from_value c d.0)) ], free_digits ch apart cs d.1)

pub free_decimal : (ch n : ℕ) → IsNoDigit ch → n < 2 ^ 64 → IsFree ch (decimal n)
free_decimal ch n apart small = free_digits ch apart (decimal n) (decimal_is_IsNumeral n small).0.1

pub free_signed : (ch : ℕ) (z : ℤ) → IsNoDigit ch → (45 ≡ ch → ⊥) → mag z < 2 ^ 63 → IsFree ch (signed_decimal z)
free_signed ch (pos n) apart sign small = free_decimal ch n apart (omega (arith, small))
free_signed ch (negsuc n) apart sign small = (sign, free_decimal ch (suc n) apart (omega (arith, small)))

-- a decimal number doesn't begin with a character that is no digit
pub first_is_digit : (ch n : ℕ) (xs : List ℕ) → IsNoDigit ch → n < 2 ^ 64 → decimal n ≡ ch ∷ xs → ⊥
first_is_digit ch n xs apart small e = (subst (IsFree ch) e (free_decimal ch n apart small)).0 refl
