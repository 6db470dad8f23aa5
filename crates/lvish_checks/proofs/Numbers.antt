-- What `parse` gives at a word.
use Rattle.std.proofs.Common.{◌≡◌, ◌≢◌, ℕ, zero, suc, ◌<◌, ◌≤◌, ◌^◌, Bool, true, false, not, cond, ◌&&◌, ◌==◌, List, [], ◌∷◌, length, get_or, Some, None, Result, Ok, Err, refl, sym, ap, subst, arith, eqb}
use Rattle.std.specs.Prelude.{ℤ, pos, nat_lt, nat_le, nat_eq}
use Rattle.std.specs.Result.{OkIff, result_ok}
use Rattle.std.specs.Int.{w64}
use Rattle.std.specs.Str.{all_ascii_digits, IsAscii, IsUtf8}
use Rattle.std.specs.Str.Parse.{digits_value, ParsesSigned}
use Rattle.std.proofs.lemmas.Str.Parse.{IsNumeralModel, numerals_by_value, tells_all_ascii_digits, parse_signed_plain, parse_signed_minus}
use Rattle.std.proofs.lemmas.Bool.Decides.{nat_tests}
use Rattle.std.proofs.lemmas.Bool.{and_from, and_parts, eqb-true, eqb-false, leb-true, le-leb, ltb-true, lt-ltb}
use lib.IntN.{neg_ℤ}
use Rattle.std.specs.List.{starts_with}
use Rattle.std.proofs.lemmas.Str.{IsUtf8-from_ascii}
use Rattle.std.proofs.lemmas.Fmt.{IsAscii-from_digits}
use Rattle.std.proofs.lemmas.Str.Ascii.{IsAscii-cons}
use Rattle.lvish_checks.specs.Form.{is_numeral, number_spelled}

pub own : IsNumeralModel (λ ds. all_ascii_digits ds ≡ true) (digits_value 10)
own = numerals_by_value _ tells_all_ascii_digits

picked : {E : Type 0} (r : Result ℤ E) (Q : Type 0) (x : ℤ) (t : Bool) → OkIff r Q x → (t ≡ true → Q) → (Q → t ≡ true) → result_ok r ≡ cond t (Some x) None
picked (Ok y) Q x true h f g = ap Some h.1
picked (Ok y) Q x false h f g = absurd (let e : false ≡ true = g h.0 in cc)
picked (Err e) Q x true h f g = absurd (h (f refl))
picked (Err e) Q x false h f g = refl

some_length : (n : ℕ) → not (n == 0) ≡ true → 0 < n
some_length zero e = absurd cc
some_length (suc n) e = omega arith

pub length_some : (n : ℕ) → 0 < n → not (n == 0) ≡ true
length_some zero h = absurd (omega arith)
length_some (suc n) h = grind (arith, nat_tests)

minus : {E : Type 0} (bs : List ℕ) (r : Result ℤ E) → ParsesSigned w64 10 (45 ∷ bs) r → result_ok r ≡ number_spelled (45 ∷ bs)
minus bs r h =
    picked r ((all_ascii_digits bs ≡ true) × (0 < length bs) × (digits_value 10 bs ≤ 2 ^ 63)) (neg_ℤ (pos (digits_value 10 bs))) (is_numeral bs && nat_le (digits_value 10 bs) (2 ^ 63))
    (parse_signed_minus own w64 (45 ∷ bs) r h refl)
    (λ e. let p = and_parts (is_numeral bs) _ e in let q = and_parts (not (length bs == 0)) _ p.0 in (q.1, some_length (length bs) q.0, leb-true _ _ p.1))
    (λ q. and_from (is_numeral bs) _ (and_from (not (length bs == 0)) _ (length_some (length bs) q.1) q.0) (le-leb _ _ q.2))

plain : {E : Type 0} (w : List ℕ) (r : Result ℤ E) → get_or w 0 0 ≢ 43 → get_or w 0 0 ≢ 45 → ParsesSigned w64 10 w r → result_ok r ≡ cond (is_numeral w && nat_lt (digits_value 10 w) (2 ^ 63)) (Some (pos (digits_value 10 w))) None
plain w r p m h =
    picked r ((all_ascii_digits w ≡ true) × (0 < length w) × (digits_value 10 w < 2 ^ 63)) (pos (digits_value 10 w)) (is_numeral w && nat_lt (digits_value 10 w) (2 ^ 63))
    (parse_signed_plain own w64 w r h p m)
    (λ e. let p = and_parts (is_numeral w) _ e in let q = and_parts (not (length w == 0)) _ p.0 in (q.1, some_length (length w) q.0, ltb-true _ _ p.1))
    (λ q. and_from (is_numeral w) _ (and_from (not (length w == 0)) _ (length_some (length w) q.1) q.0) (lt-ltb _ _ q.2))

other : {E : Type 0} (b : ℕ) (bs : List ℕ) (t : Bool) (r : Result ℤ E) → eqb b 45 ≡ t → b ≢ 43 → ParsesSigned w64 10 (b ∷ bs) r → result_ok r ≡ number_spelled (b ∷ bs)
other b bs true r e p h = let s : b ≡ 45 = omega (arith, eqb-true b 45 e) in subst (λ k. result_ok r ≡ number_spelled (k ∷ bs)) (sym s) (minus bs r (subst (λ k. ParsesSigned w64 10 (k ∷ bs) r) s h))
other b bs false r e p h = rw e (plain (b ∷ bs) r p (eqb-false b 45 e) h)

pub parsed : {E : Type 0} (w : List ℕ) (r : Result ℤ E) → get_or w 0 0 ≢ 43 → ParsesSigned w64 10 w r → result_ok r ≡ number_spelled w
parsed [] r p h = plain [] r p (λ e. absurd (omega arith)) h
parsed (b ∷ bs) r p h = other b bs (eqb b 45) r refl p h

pub no_plus : (w : List ℕ) → starts_with nat_eq w (43 ∷ []) ≡ false → get_or w 0 0 ≢ 43
no_plus [] e h = absurd (omega arith)
no_plus (b ∷ bs) e h = let s : starts_with nat_eq (43 ∷ bs) (43 ∷ []) ≡ false = subst (λ k. starts_with nat_eq (k ∷ bs) (43 ∷ []) ≡ false) h e in absurd cc

unpicked : (x : ℤ) (t : Bool) → (t ≡ true → ⊥) → cond t (Some x) None ≡ None
unpicked x true h = absurd (h refl)
unpicked x false h = refl

are_digits : (ds : List ℕ) (l : Bool) → (is_numeral ds && l) ≡ true → IsAscii ds
are_digits ds l e = IsAscii-from_digits ds (own.to ds (and_parts (not (length ds == 0)) _ (and_parts (is_numeral ds) l e).0).1)

other_text : (b : ℕ) (bs : List ℕ) (t : Bool) → eqb b 45 ≡ t → (IsUtf8 (b ∷ bs) → ⊥) → number_spelled (b ∷ bs) ≡ None
other_text b bs true e h = rw e (unpicked _ (is_numeral bs && nat_le (digits_value 10 bs) (2 ^ 63)) (λ p. h (IsUtf8-from_ascii (b ∷ bs) (IsAscii-cons b bs (omega (arith, eqb-true b 45 e)) (are_digits bs _ p)))))
other_text b bs false e h = rw e (unpicked _ (is_numeral (b ∷ bs) && nat_lt (digits_value 10 (b ∷ bs)) (2 ^ 63)) (λ p. h (IsUtf8-from_ascii (b ∷ bs) (are_digits (b ∷ bs) _ p))))

pub no_text : (w : List ℕ) → (IsUtf8 w → ⊥) → number_spelled w ≡ None
no_text [] h = refl
no_text (b ∷ bs) h = other_text b bs (eqb b 45) refl h
