-- Words that can stand in a line: no separator, no line feed and no comment's beginning in them.
use Rattle.std.proofs.Common.{◌≡◌, cond, ℕ, suc, Bool, true, false, not, ◌&&◌, List, [], ◌∷◌, ◌++◌, length, map, Option, Some, refl, ap, ◌∙◌, arith}
use Rattle.std.proofs.lemmas.Bool.{and_from, or_from}
use Rattle.std.specs.Prelude.{nat_le, ◌==◌, ℤ, pos, negsuc, filter, take_while}
use Rattle.std.specs.List.{list_any, list_all, slice_split, onto_first}
use Rattle.std.specs.Str.{all_ascii_digits}
use Rattle.std.specs.Fmt.{decimal, signed_decimal}
use Rattle.std.proofs.lemmas.Fmt.{digits_decimal}
use Rattle.std.proofs.lemmas.Bool.Decides.{nat_tests}
use Rattle.std.proofs.lemmas.List.{append-nil}
use Rattle.std.proofs.lemmas.List.Folds.{list_any-append}
use Rattle.std.proofs.lemmas.List.Sums.{take_while-cons}
use Rattle.std.proofs.lemmas.List.Splits.{slice_split-cons_yes, slice_split-cons_no}
use Rattle.lvish_syntax.specs.Words.{Word, is_name, is_name_byte, is_letter}
use Rattle.lvish_syntax.specs.Written.{is_within, is_term_written}
use Rattle.lvish_script.specs.Vocabulary.{Term, Local, Number}
use Rattle.lvish_checks.specs.Text.{is_separator, is_comment, is_foreign, words_of}
use Rattle.lvish_checks.specs.Form.{is_numeral, value_of_number, number_word, term_of, is_bad_number, all_of}
use Rattle.lvish_checks.specs.Spelling.{term_word}
use Rattle.lvish_script.specs.Canonical.{spaced, words_joined}
use Rattle.lvish_checks.proofs.Cuts.{left_fails, right_fails, left_holds, right_holds}
use Rattle.lvish_checks.proofs.Names.{name_parts, name_no_number}
use Rattle.lvish_checks.proofs.Numbers.{own, length_some}
use Rattle.lvish_checks.proofs.Decimals.{below, above, decimal_numeral, number_back, number_is_word}

-- a byte of a word
abbrev pub is_plain_byte : ℕ → Bool
is_plain_byte b = nat_le 33 b && nat_le b 126

-- a word that a line can have
abbrev pub is_plain : Word → Bool
is_plain [] = false
is_plain (b ∷ bs) = not (b == 35) && list_all is_plain_byte (b ∷ bs)

-- ---- names

name_byte_plain : (b : ℕ) → is_name_byte b ≡ true → is_plain_byte b ≡ true
name_byte_plain b e = grind (arith, nat_tests)

name_bytes_plain : (w : Word) → list_all is_name_byte w ≡ true → list_all is_plain_byte w ≡ true
name_bytes_plain [] e = refl
name_bytes_plain (b ∷ w) e = and_from (is_plain_byte b) _ (name_byte_plain b (left_holds (is_name_byte b) _ e)) (name_bytes_plain w (right_holds (is_name_byte b) _ e))

letter_begins : (b : ℕ) → is_letter b ≡ true → not (b == 35) ≡ true
letter_begins b e = grind (arith, nat_tests)

pub name_plain : (w : Word) → is_name w ≡ true → is_plain w ≡ true
unfolding is_name
name_plain [] e = absurd cc
name_plain (b ∷ w) e = let p = name_parts b w e in and_from (not (b == 35)) _ (letter_begins b p.0) (name_bytes_plain (b ∷ w) p.1)

-- ---- numbers

digit_plain : (d : ℕ) (t : Bool) → ((nat_le 48 d && nat_le d 57) && t) ≡ true → is_plain_byte d ≡ true
digit_plain d true e = grind (arith, nat_tests)
digit_plain d false e = grind (arith, nat_tests)

digits_plain : (ds : List ℕ) → all_ascii_digits ds ≡ true → list_all is_plain_byte ds ≡ true
digits_plain [] e = refl
digits_plain (d ∷ ds) e = and_from (is_plain_byte d) _ (digit_plain d (all_ascii_digits ds) e) (digits_plain ds (right_holds _ (all_ascii_digits ds) e))

digits_begin : (ds : List ℕ) → is_numeral ds ≡ true → is_plain ds ≡ true
digits_begin [] e = absurd cc
digits_begin (d ∷ ds) e =
    let all = right_holds (not (length (d ∷ ds) == 0)) _ e in
    and_from (not (d == 35)) _ (no_hash d (all_ascii_digits ds) all) (digits_plain (d ∷ ds) all)
  where
    no_hash : (d : ℕ) (t : Bool) → ((nat_le 48 d && nat_le d 57) && t) ≡ true → not (d == 35) ≡ true
    no_hash d true e = grind (arith, nat_tests)
    no_hash d false e = grind (arith, nat_tests)

pub number_plain : (z : ℤ) → is_within z ≡ true → is_plain (signed_decimal z) ≡ true
number_plain (pos n) e = digits_begin (decimal n) (decimal_numeral n (below n e))
number_plain (negsuc n) e = digits_plain (decimal (suc n)) (digits_decimal own (suc n) (above n e))

value_back : (z : ℤ) → is_within z ≡ true → value_of_number (signed_decimal z) ≡ z
value_back z e = rw (number_back z e) refl

pub word_back : (z : ℤ) → is_within z ≡ true → number_word (signed_decimal z) ≡ Some z
word_back z e = rw (number_is_word z e) (ap Some (value_back z e))

-- ---- terms

pub term_back : (t : Term) → is_term_written t ≡ true → term_of (term_word t) ≡ Some t
term_back (Local x) e = rw (name_no_number x e, e) refl
term_back (Number z) e = rw (number_is_word z e) (ap (λ y. Some (Number y)) (value_back z e))

pub term_plain : (t : Term) → is_term_written t ≡ true → is_plain (term_word t) ≡ true
term_plain (Local x) e = name_plain x e
term_plain (Number z) e = number_plain z e

-- a name is no bad number
pub name_good : (w : Word) → is_name w ≡ true → is_bad_number w ≡ false
name_good w e = rw (name_no_number w e) refl

pub number_good : (z : ℤ) → is_within z ≡ true → is_bad_number (signed_decimal z) ≡ false
number_good z e = rw (number_is_word z e, number_back z e) refl

pub term_good : (t : Term) → is_term_written t ≡ true → is_bad_number (term_word t) ≡ false
term_good (Local x) e = name_good x e
term_good (Number z) e = number_good z e

-- words that were written of values give them back
pub all_back : {X : Type 0} (f : Word → Option X) (g : X → Word) (p : X → Bool) → ((x : X) → p x ≡ true → f (g x) ≡ Some x) → (xs : List X) → list_all p xs ≡ true → all_of f (map g xs) ≡ Some xs
all_back f g p h [] e = refl
all_back f g p h (x ∷ xs) e = rw (h x (left_holds (p x) _ e), all_back f g p h xs (right_holds (p x) _ e)) refl

pub all_map : {X : Type 0} (g : X → Word) (p : X → Bool) (q : Word → Bool) → ((x : X) → p x ≡ true → q (g x) ≡ true) → (xs : List X) → list_all p xs ≡ true → list_all q (map g xs) ≡ true
all_map g p q h [] e = refl
all_map g p q h (x ∷ xs) e = and_from (q (g x)) _ (h x (left_holds (p x) _ e)) (all_map g p q h xs (right_holds (p x) _ e))

pub all_same : {X : Type 0} (p q : X → Bool) → ((x : X) → p x ≡ true → q x ≡ true) → (xs : List X) → list_all p xs ≡ true → list_all q xs ≡ true
all_same p q h [] e = refl
all_same p q h (x ∷ xs) e = and_from (q x) _ (h x (left_holds (p x) _ e)) (all_same p q h xs (right_holds (p x) _ e))

-- ---- the words of a line that is written

plain_no : (b : ℕ) → is_plain_byte b ≡ true → is_separator b ≡ false
plain_no b e = grind (arith, nat_tests)

module _ (p : ℕ → Bool) (h : (b : ℕ) → is_plain_byte b ≡ true → p b ≡ false) where
  pub none_in : (w : List ℕ) → list_all is_plain_byte w ≡ true → list_any p w ≡ false
  none_in [] e = refl
  none_in (b ∷ w) e = or_from (p b) _ (h b (left_holds (is_plain_byte b) _ e)) (none_in w (right_holds (is_plain_byte b) _ e))

bytes_of : (w : Word) → is_plain w ≡ true → list_all is_plain_byte w ≡ true
bytes_of [] e = refl
bytes_of (b ∷ w) e = right_holds (not (b == 35)) _ e

-- a list is cut at the first byte that passes
pub split_at : (p : ℕ → Bool) (xs : List ℕ) (y : ℕ) (ys : List ℕ) → list_any p xs ≡ false → p y ≡ true → slice_split p (xs ++ y ∷ ys) ≡ xs ∷ slice_split p ys
split_at p [] y ys none e = slice_split-cons_yes p y ys e
split_at p (x ∷ xs) y ys none e = slice_split-cons_no p x (xs ++ y ∷ ys) (left_fails (p x) _ none) ∙ ap (onto_first x) (split_at p xs y ys (right_fails (p x) _ none) e)

pub split_none : (p : ℕ → Bool) (xs : List ℕ) → list_any p xs ≡ false → slice_split p xs ≡ xs ∷ []
split_none p [] none = refl
split_none p (x ∷ xs) none = slice_split-cons_no p x xs (left_fails (p x) _ none) ∙ ap (onto_first x) (split_none p xs (right_fails (p x) _ none))

split_words : (w : Word) (ws : List Word) → list_all is_plain (w ∷ ws) ≡ true → slice_split is_separator (w ++ spaced ws) ≡ w ∷ ws
split_words w [] e = ap (slice_split is_separator) (append-nil w) ∙ split_none is_separator w (none_in is_separator plain_no w (bytes_of w (left_holds (is_plain w) _ e)))
split_words w (v ∷ ws) e =
    split_at is_separator w 32 (v ++ spaced ws) (none_in is_separator plain_no w (bytes_of w (left_holds (is_plain w) _ e))) refl
    ∙ ap (λ t. w ∷ t) (split_words v ws (right_holds (is_plain w) _ e))

kept_words : (ws : List Word) → list_all is_plain ws ≡ true → filter (λ w. not (length w == 0)) ws ≡ ws
kept_words [] e = refl
kept_words ([] ∷ ws) e = absurd cc
kept_words ((b ∷ w) ∷ ws) e = keep (not (length (b ∷ w) == 0)) (length_some (length (b ∷ w)) (omega arith)) ∙ ap (λ t. (b ∷ w) ∷ t) (kept_words ws (right_holds (is_plain (b ∷ w)) _ e))
  where
    keep : (t : Bool) → t ≡ true → cond t ((b ∷ w) ∷ filter (λ w. not (length w == 0)) ws) (filter (λ w. not (length w == 0)) ws) ≡ (b ∷ w) ∷ filter (λ w. not (length w == 0)) ws
    keep true f = refl
    keep false f = absurd cc

all_words : (ws : List Word) → list_all is_plain ws ≡ true → take_while (λ w. not (is_comment w)) ws ≡ ws
all_words [] e = refl
all_words ([] ∷ ws) e = absurd cc
all_words ((b ∷ w) ∷ ws) e =
    take_while-cons (λ w. not (is_comment w)) (b ∷ w) ws
    ∙ ap (λ t. cond t ((b ∷ w) ∷ take_while (λ w. not (is_comment w)) ws) []) (left_holds (not (b == 35)) _ (left_holds (is_plain (b ∷ w)) _ e))
    ∙ ap (λ t. (b ∷ w) ∷ t) (all_words ws (right_holds (is_plain (b ∷ w)) _ e))

-- the words of plain words in one line
pub words_back : (w : Word) (ws : List Word) → list_all is_plain (w ∷ ws) ≡ true → words_of (words_joined (w ∷ ws)) ≡ w ∷ ws
words_back w ws e =
    ap (λ t. take_while (λ v. not (is_comment v)) (filter (λ v. not (length v == 0)) t)) (split_words w ws e)
    ∙ ap (take_while (λ v. not (is_comment v))) (kept_words (w ∷ ws) e)
    ∙ all_words (w ∷ ws) e

-- a test that no byte of a plain word passes, and no space
module _ (p : ℕ → Bool) (h : (b : ℕ) → is_plain_byte b ≡ true → p b ≡ false) (space : p 32 ≡ false) where
  none_spaced : (ws : List Word) → list_all is_plain ws ≡ true → list_any p (spaced ws) ≡ false
  none_spaced [] e = refl
  none_spaced (w ∷ ws) e =
      or_from (p 32) _ space (list_any-append p w (spaced ws) ∙ or_from (list_any p w) _ (none_in p h w (bytes_of w (left_holds (is_plain w) _ e))) (none_spaced ws (right_holds (is_plain w) _ e)))

  pub none_joined : (ws : List Word) → list_all is_plain ws ≡ true → list_any p (words_joined ws) ≡ false
  none_joined [] e = refl
  none_joined (w ∷ ws) e = list_any-append p w (spaced ws) ∙ or_from (list_any p w) _ (none_in p h w (bytes_of w (left_holds (is_plain w) _ e))) (none_spaced ws (right_holds (is_plain w) _ e))

pub no_foreign : (ws : List Word) → list_all is_plain ws ≡ true → list_any is_foreign (words_joined ws) ≡ false
no_foreign ws e = none_joined is_foreign (λ b plain. grind (arith, nat_tests)) refl ws e

pub no_feed : (ws : List Word) → list_all is_plain ws ≡ true → list_any (λ b. b == 10) (words_joined ws) ≡ false
no_feed ws e = none_joined (λ b. b == 10) (λ b plain. grind (arith, nat_tests)) refl ws e
