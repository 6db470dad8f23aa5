-- Numbers and their decimal forms.
use Rattle.std.proofs.Common.{◌≡◌, cond, ℕ, zero, suc, ◌^◌, ◌<◌, Bool, true, false, not, ◌||◌, ◌&&◌, List, [], ◌∷◌, length, Some, None, refl, ap, ◌∙◌, arith}
use Rattle.std.specs.Prelude.{nat_le, nat_lt, ◌==◌, ℤ, pos, negsuc}
use Rattle.std.specs.Str.{all_ascii_digits}
use Rattle.std.specs.Str.Parse.{digits_value}
use Rattle.std.specs.Fmt.{decimal, signed_decimal}
use Rattle.std.proofs.lemmas.Bool.{and_from}
use Rattle.std.proofs.lemmas.Fmt.{digits_decimal, digits_value-decimal, decimal_is_IsNumeral}
use Rattle.std.proofs.lemmas.Bool.Decides.{nat_tests}
use lib.IntN.{neg_ℤ}
use Rattle.lvish_syntax.specs.Words.{Word, is_digit}
use Rattle.lvish_syntax.specs.Written.{is_within}
use Rattle.lvish_checks.specs.Form.{is_number_word, is_numeral, number_spelled}
use Rattle.lvish_checks.proofs.Cuts.{right_holds}
use Rattle.lvish_checks.proofs.Numbers.{own, length_some}
use Rattle.lvish_checks.proofs.Values.{Each, each_if}

pub below : (n : ℕ) → nat_lt n (2 ^ 63) ≡ true → n < 2 ^ 64
below n e = grind (arith, nat_tests)

pub above : (n : ℕ) → nat_lt n (2 ^ 63) ≡ true → suc n < 2 ^ 64
above n e = grind (arith, nat_tests)

up_to : (n : ℕ) → nat_lt n (2 ^ 63) ≡ true → nat_le (suc n) (2 ^ 63) ≡ true
up_to n e = grind (arith, nat_tests)

pub decimal_numeral : (n : ℕ) → n < 2 ^ 64 → is_numeral (decimal n) ≡ true
decimal_numeral n h = and_from (not (length (decimal n) == 0)) _ (length_some (length (decimal n)) (decimal_is_IsNumeral n h).0.0) (digits_decimal own n h)

decimal_value : (n : ℕ) → n < 2 ^ 64 → digits_value 10 (decimal n) ≡ n
decimal_value n h = digits_value-decimal own n h

-- digits do not begin as a negative number does, nor as a comment
pub digits_number : (ds : List ℕ) → is_numeral ds ≡ true → nat_lt (digits_value 10 ds) (2 ^ 63) ≡ true → number_spelled ds ≡ Some (pos (digits_value 10 ds))
digits_number [] e f = absurd cc
digits_number (d ∷ ds) e f =
    let no_minus : (d == 45) ≡ false = no_sign d (all_ascii_digits ds) (right_holds (not (length (d ∷ ds) == 0)) _ e) in
    let test : (is_numeral (d ∷ ds) && nat_lt (digits_value 10 (d ∷ ds)) (2 ^ 63)) ≡ true = and_from (is_numeral (d ∷ ds)) _ e f in
    rw no_minus (ap (λ b. cond b (Some (pos (digits_value 10 (d ∷ ds)))) None) test)
  where
    no_sign : (d : ℕ) (t : Bool) → ((nat_le 48 d && nat_le d 57) && t) ≡ true → (d == 45) ≡ false
    no_sign d true e = grind (arith, nat_tests)
    no_sign d false e = grind (arith, nat_tests)

pub digits_word : (ds : List ℕ) → is_numeral ds ≡ true → is_number_word ds ≡ true
digits_word [] e = absurd cc
digits_word (d ∷ ds) e = is_word d (all_ascii_digits ds) (d == 45 && not (length ds == 0)) (right_holds (not (length (d ∷ ds) == 0)) _ e)
  where
    is_word : (d : ℕ) (t u : Bool) → ((nat_le 48 d && nat_le d 57) && t) ≡ true → (is_digit d || u) ≡ true
    is_word d true true e = grind (arith, nat_tests)
    is_word d true false e = grind (arith, nat_tests)
    is_word d false u e = grind (arith, nat_tests)

-- the number that a number's decimal form writes
pub number_back : (z : ℤ) → is_within z ≡ true → number_spelled (signed_decimal z) ≡ Some z
number_back (pos n) e =
    let small = below n e in
    digits_number (decimal n) (decimal_numeral n small) (ap (λ m. nat_lt m (2 ^ 63)) (decimal_value n small) ∙ e) ∙ ap (λ m. Some (pos m)) (decimal_value n small)
number_back (negsuc n) e =
    let small = above n e in
    let test : (is_numeral (decimal (suc n)) && nat_le (digits_value 10 (decimal (suc n))) (2 ^ 63)) ≡ true = and_from (is_numeral (decimal (suc n))) _ (decimal_numeral (suc n) small) (ap (λ m. nat_le m (2 ^ 63)) (decimal_value (suc n) small) ∙ up_to n e) in
    ap (λ b. cond b (Some (neg_ℤ (pos (digits_value 10 (decimal (suc n)))))) None) test ∙ ap (λ m. Some (neg_ℤ (pos m))) (decimal_value (suc n) small)

pub number_is_word : (z : ℤ) → is_within z ≡ true → is_number_word (signed_decimal z) ≡ true
number_is_word (pos n) e = digits_word (decimal n) (decimal_numeral n (below n e))
number_is_word (negsuc n) e = length_some (length (decimal (suc n))) (decimal_is_IsNumeral (suc n) (above n e)).0.0

-- ---- numbers within 64 bits

abbrev IsWithin : ℤ → Type 0
IsWithin z = is_within z ≡ true

negative_within : (n : ℕ) → nat_le n (2 ^ 63) ≡ true → is_within (neg_ℤ (pos n)) ≡ true
negative_within zero e = refl
negative_within (suc n) e = grind (arith, nat_tests)

pub number_within : (w : Word) → Each (λ z. is_within z ≡ true) (number_spelled w)
number_within [] = tt
number_within (b ∷ bs) =
    each_if IsWithin (b == 45) _ _
    (λ e. each_if IsWithin (is_numeral bs && nat_le (digits_value 10 bs) (2 ^ 63)) _ None (λ f. negative_within (digits_value 10 bs) (right_holds (is_numeral bs) _ f)) (λ f. tt))
    (λ e. each_if IsWithin (is_numeral (b ∷ bs) && nat_lt (digits_value 10 (b ∷ bs)) (2 ^ 63)) _ None (λ f. right_holds (is_numeral (b ∷ bs)) _ f) (λ f. tt))
