-- Names begin with a letter, and are no number words.
use Rattle.std.proofs.Common.{◌≡◌, ℕ, Bool, true, false, not, ◌||◌, ◌&&◌, [], ◌∷◌, length, refl, arith}
use Rattle.std.specs.Prelude.{nat_le, ◌==◌}
use Rattle.std.specs.List.{list_all}
use Rattle.std.proofs.lemmas.Bool.{and_parts}
use Rattle.std.proofs.lemmas.Bool.Decides.{nat_tests}
use Rattle.lvish_syntax.specs.declared.limits.TheConstants.{MOST_IN_NAME}
use Rattle.lvish_syntax.specs.Words.{Word, is_name, is_name_byte, is_letter, is_digit, is_reserved}
use Rattle.lvish_checks.specs.Form.{is_number_word}
use Rattle.lvish_checks.proofs.Cuts.{left_holds}

letter_no_number : (b : ℕ) (t : Bool) → is_letter b ≡ true → (is_digit b || (b == 45 && t)) ≡ false
letter_no_number b true e = grind (arith, nat_tests)
letter_no_number b false e = grind (arith, nat_tests)

pub name_parts : (b : ℕ) (w : Word) → is_name (b ∷ w) ≡ true → (is_letter b ≡ true) × (list_all is_name_byte (b ∷ w) ≡ true)
unfolding is_name
name_parts b w e =
    let all : (is_letter b && nat_le (length (b ∷ w)) MOST_IN_NAME && list_all is_name_byte (b ∷ w) && not (is_reserved (b ∷ w))) ≡ true = e in
    let three = and_parts (is_letter b && nat_le (length (b ∷ w)) MOST_IN_NAME) _ (left_holds _ (not (is_reserved (b ∷ w))) all) in
    (left_holds (is_letter b) _ three.0, three.1)

pub name_no_number : (w : Word) → is_name w ≡ true → is_number_word w ≡ false
unfolding is_name
name_no_number [] e = refl
name_no_number (b ∷ w) e = letter_no_number b (not (length w == 0)) (name_parts b w e).0
