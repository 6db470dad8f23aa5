-- Words that are names.
use Rattle.std.proofs.Common.{◌≡◌, ℕ, ◌<◌, ◌≤◌, true, not, ◌&&◌, [], ◌∷◌, length, arith}
use Rattle.std.specs.Prelude.{nat_le}
use Rattle.std.proofs.lemmas.Bool.{and_parts}
use Rattle.std.proofs.lemmas.Bool.Decides.{nat_tests}
use Rattle.std.specs.List.{list_all}
use Rattle.std.specs.Str.{IsAscii, IsUtf8}
use Rattle.std.proofs.lemmas.Str.{IsUtf8-from_ascii}
use Rattle.std.proofs.lemmas.Str.Ascii.{IsAscii-cons, IsAscii-nil}
use Rattle.lvish_syntax.specs.declared.limits.TheConstants.{MOST_IN_NAME}
use Rattle.lvish_syntax.specs.Words.{Word, is_name, is_name_byte, begins_name, is_reserved}

byte_below : (b : ℕ) → is_name_byte b ≡ true → b < 128
byte_below b e = grind (arith, nat_tests)

bytes_below : (w : Word) → list_all is_name_byte w ≡ true → IsAscii w
bytes_below [] e = IsAscii-nil
bytes_below (b ∷ w) e = let p = and_parts (is_name_byte b) _ e in IsAscii-cons b w (byte_below b p.0) (bytes_below w p.1)

-- a name is text
pub text_from_name : (w : Word) → is_name w ≡ true → IsUtf8 w
unfolding is_name
text_from_name w e =
    let all : (begins_name w && nat_le (length w) MOST_IN_NAME && list_all is_name_byte w && not (is_reserved w)) ≡ true = e in
    IsUtf8-from_ascii w (bytes_below w (and_parts (begins_name w && nat_le (length w) MOST_IN_NAME) _ (and_parts (begins_name w && nat_le (length w) MOST_IN_NAME && list_all is_name_byte w) _ all).0).1)

-- and has at most MOST_IN_NAME bytes
pub short_name : (w : Word) → is_name w ≡ true → length w ≤ MOST_IN_NAME
unfolding is_name
short_name w e =
    let all : (begins_name w && nat_le (length w) MOST_IN_NAME && list_all is_name_byte w && not (is_reserved w)) ≡ true = e in
    let few = (and_parts (begins_name w) _ (and_parts (begins_name w && nat_le (length w) MOST_IN_NAME) _ (and_parts (begins_name w && nat_le (length w) MOST_IN_NAME && list_all is_name_byte w) _ all).0).0).1 in
    grind (arith, nat_tests, few)
