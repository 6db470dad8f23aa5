-- Words, and those that are names.
use Rattle.std.specs.Prelude.{ℕ, Bool, false, not, ◌||◌, ◌&&◌, ◌==◌, nat_le, codes, List, [], ◌∷◌, length}
use Rattle.std.specs.List.{slice_split, list_any, list_all}
use Rattle.std.specs.Str.{bytes_eq}
use Rattle.lvish_syntax.specs.declared.limits.TheConstants.{MOST_IN_NAME}

-- a word, by its bytes
abbrev pub Word : Type 0
Word = List ℕ

abbrev pub is_digit : ℕ → Bool
is_digit b = nat_le 48 b && nat_le b 57

abbrev pub is_letter : ℕ → Bool
is_letter b = (nat_le 65 b && nat_le b 90) || (nat_le 97 b && nat_le b 122)

abbrev pub is_name_byte : ℕ → Bool
is_name_byte b = is_letter b || is_digit b || b == 95

abbrev pub reserved : List ℕ
reserved = codes "cell set max map pair pool proc end let put get any in has least fork call handle freeze after each if else while"

abbrev pub is_reserved : Word → Bool
is_reserved w = list_any (λ r. bytes_eq r w) (slice_split (λ b. b == 32) reserved)

abbrev pub begins_name : Word → Bool
begins_name [] = false
begins_name (b ∷ bs) = is_letter b

-- a name: 1 to MOST_IN_NAME letters, digits and underscores, the first a letter, and no reserved word
unfoldable pub is_name : Word → Bool
is_name w = begins_name w && nat_le (length w) MOST_IN_NAME && list_all is_name_byte w && not (is_reserved w)
