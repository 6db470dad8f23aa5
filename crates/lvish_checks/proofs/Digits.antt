-- What a few digits come to.
use Rattle.std.proofs.Common.{◌≡◌, ℕ, zero, suc, ◌+◌, ◌*◌, ◌<◌, ◌≤◌, ◌^◌, Bool, true, false, not, ◌&&◌, List, length, take, drop, get_or, Option, Some, Result, Ok, Err, subst, true≢false, sym, ap, ◌∙◌, arith, ◌==◌}
use Rattle.std.specs.Prelude.{nat_lt, ℤ, pos, MatchOption, ⊤}
use Rattle.std.specs.Result.{OkIff, result_ok}
use Rattle.std.specs.Str.{all_ascii_digits}
use Rattle.std.specs.Str.Parse.{digits_value}
use Rattle.std.specs.Char.{digit_value}
use Rattle.std.proofs.lemmas.Bool.{and_from, lt-ltb}
use Rattle.std.proofs.lemmas.Bool.Decides.{nat_tests}
use Rattle.std.proofs.lemmas.Int.Digits.{digits_value_more}
use Rattle.std.proofs.lemmas.Str.{digit_value_digit}
use Rattle.std.proofs.lemmas.List.{drop_all, drop_more}
use Rattle.lvish_syntax.specs.Words.{is_digit}
use Rattle.lvish_checks.specs.Form.{is_numeral, number_spelled}
use Rattle.lvish_checks.proofs.Numbers.{length_some}
use Rattle.lvish_checks.proofs.Decimals.{digits_number}

from_48 : (b : ℕ) → is_digit b ≡ true → 48 ≤ b
from_48 b e = grind (arith, nat_tests)

to_57 : (b : ℕ) → is_digit b ≡ true → b ≤ 57
to_57 b e = grind (arith, nat_tests)

module _ (word : List ℕ) (i : ℕ) (lt : i < length word) where
  -- the value with one digit more
  pub value_more : (value d : ℕ) → is_digit (get_or word i 0) ≡ true → d + 48 ≡ get_or word i 0 → value ≡ digits_value 10 (take i word) → value * 10 + d ≡ digits_value 10 (take (i + 1) word)
  value_more value d e h v =
      let of : digit_value (get_or word i 0) + 48 ≡ get_or word i 0 = digit_value_digit (get_or word i 0) (from_48 _ e, to_57 _ e) in
      let same : d ≡ digit_value (get_or word i 0) = omega (arith, h, of) in
      ap (λ n. n * 10 + d) v ∙ ap (λ n. digits_value 10 (take i word) * 10 + n) same ∙ sym (digits_value_more 10 word i lt)

  -- all are digits where those behind this one are
  pub digits_more : is_digit (get_or word i 0) ≡ true → all_ascii_digits (drop i word) ≡ all_ascii_digits word → all_ascii_digits (drop (i + 1) word) ≡ all_ascii_digits word
  digits_more e h = ap (λ t. t && all_ascii_digits (drop (i + 1) word)) (sym e) ∙ ap all_ascii_digits (sym (drop_more word i 0 lt)) ∙ h

-- digits that stay far from 64 bits write their value
pub few_spelled : (ds : List ℕ) (i value : ℕ) → 0 < length ds → length ds ≤ i → all_ascii_digits (drop i ds) ≡ all_ascii_digits ds → value ≡ digits_value 10 ds → value ≤ 1000000000000000009 → number_spelled ds ≡ Some (pos value)
few_spelled ds i value some le all v most =
    let whole : all_ascii_digits ds ≡ true = sym all ∙ ap all_ascii_digits (drop_all i ds le) in
    let numeral : is_numeral ds ≡ true = and_from (not (length ds == 0)) _ (length_some (length ds) some) whole in
    let small : nat_lt (digits_value 10 ds) (2 ^ 63) ≡ true = lt-ltb _ _ (omega (arith, v, most)) in
    digits_number ds numeral small ∙ ap (λ n. Some (pos n)) (sym v)

-- a number that fits is given
pub given : {E : Type 0} (P : Type 0) (r : Result ℤ E) (z : ℤ) (o spelled : Option ℤ) → o ≡ result_ok r → OkIff r P z → spelled ≡ Some z → MatchOption o ⊤ (λ n. spelled ≡ Some n)
given P (Ok v) z o spelled e h s = subst (λ p. MatchOption p ⊤ (λ n. spelled ≡ Some n)) (sym e) (s ∙ ap Some (sym h.1))
given P (Err x) z o spelled e h s = subst (λ p. MatchOption p ⊤ (λ n. spelled ≡ Some n)) (sym e) tt

-- what isn't empty has a byte
pub some_bytes : (n : ℕ) (empty : Bool) → empty ≡ (n == 0) → empty ≡ false → 0 < n
some_bytes zero empty e f = absurd (true≢false (sym e ∙ f))
some_bytes (suc n) empty e f = omega arith
