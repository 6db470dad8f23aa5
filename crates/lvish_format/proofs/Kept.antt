-- What a formatted text says.
use Rattle.std.proofs.Common.{◌≡◌, ℕ, zero, suc, ◌≤◌, ◌-◌, Bool, true, false, not, ◌||◌, List, [], ◌∷◌, ◌++◌, length, map, take, refl, sym, ap, subst, ◌∙◌, arith, append_assoc}
use Rattle.std.specs.Prelude.{◌==◌, ◌↔◌, filter, slice_index, slice_get, nat_lt, if◌then◌else◌}
use Rattle.std.specs.Option.{option_map_or}
use Rattle.std.specs.List.{list_any, slice_split, onto_first, flat_map, AllByRecursion}
use Rattle.std.proofs.Math.Seq.{take-append_seam}
use Rattle.std.proofs.lemmas.Bool.{or_from}
use Rattle.std.proofs.lemmas.Bool.Decides.{nat_tests}
use Rattle.std.proofs.lemmas.List.{append-nil, length_push}
use Rattle.std.proofs.lemmas.List.Splits.{slice_split-cons_yes, slice_split-cons_no}
use Rattle.lvish_syntax.specs.declared.limits.TheConstants.{MOST_BYTES}
use Rattle.lvish_syntax.specs.declared.script.Script.{Script}
use Rattle.lvish_checks.specs.declared.fault.Fault.{Fault}
use Rattle.lvish_checks.specs.declared.fault.Fault.TheVariants.{TooLong, NotAscii, BadLine, BadNumber, DoubleName, UnknownName, WrongKind, WrongCount, OpenBlock, Compatible, NoMain, TooMany, Memory}
use Rattle.lvish_checks.specs.Text.{lines_of, words_of, is_separator, is_foreign, without_last_feed}
use Rattle.lvish_checks.specs.Form.{line_of, is_bad_number}
use Rattle.lvish_checks.specs.Checks.{on_line, on_whole, line_fails, parts_of, fails, checks, is_main, version_of, IsFirstOf}
use Rattle.lvish_checks.proofs.Cuts.{left_fails, right_fails}
use Rattle.lvish_script.specs.Spells.{Spells, says_something}
use Rattle.lvish_script.proofs.Plain.{split_at, split_none}
use Rattle.lvish_format.specs.Format.{pieces_of, formatted_line, depth_after, formatted_lines, ended, formatted}
use Rattle.lvish_format.specs.Same.{SpellTheSame}
use Rattle.lvish_format.proofs.Cut.{same_bytes, pieces_again, words_again}

abbrev is_feed : ℕ → Bool
is_feed b = b == 10

-- ---- the lines of a text have no line feed

parts_without : (p : ℕ → Bool) (b : ℕ) (t : Bool) → p b ≡ t → (bs : List ℕ) → list_any (list_any p) (slice_split p bs) ≡ false → list_any (list_any p) (slice_split p (b ∷ bs)) ≡ false
parts_without p b true e bs h = ap (list_any (list_any p)) (slice_split-cons_yes p b bs e) ∙ h
parts_without p b false e bs h = ap (list_any (list_any p)) (slice_split-cons_no p b bs e) ∙ onto (slice_split p bs) h
  where
    onto : (parts : List (List ℕ)) → list_any (list_any p) parts ≡ false → list_any (list_any p) (onto_first b parts) ≡ false
    onto [] k = or_from (p b || false) false (or_from (p b) false e refl) refl
    onto (w ∷ parts) k = or_from (list_any p (b ∷ w)) _ (or_from (p b) _ e (left_fails (list_any p w) _ k)) (right_fails (list_any p w) _ k)

none_in_parts : (p : ℕ → Bool) (bs : List ℕ) → list_any (list_any p) (slice_split p bs) ≡ false
none_in_parts p [] = refl
none_in_parts p (b ∷ bs) = parts_without p b (p b) refl bs (none_in_parts p bs)

no_feeds : (text : List ℕ) → list_any (list_any is_feed) (lines_of text) ≡ false
no_feeds text = by_length (length text == 0)
  where
    by_length : (t : Bool) → list_any (list_any is_feed) (if t then [] else slice_split is_feed (without_last_feed text)) ≡ false
    by_length true = refl
    by_length false = none_in_parts is_feed (without_last_feed text)

-- ---- lines that are written are read

-- the text of lines without its last line feed
abbrev bare : List ℕ → List (List ℕ) → List ℕ
bare l [] = l
bare l (m ∷ ls) = l ++ 10 ∷ bare m ls

text_is : (l : List ℕ) (ls : List (List ℕ)) → flat_map ended (l ∷ ls) ≡ bare l ls ++ 10 ∷ []
text_is l [] = append-nil (l ++ 10 ∷ [])
text_is l (m ∷ ls) =
    ap (λ t. (l ++ 10 ∷ []) ++ t) (text_is m ls)
    ∙ append_assoc l (10 ∷ []) (bare m ls ++ 10 ∷ [])
    ∙ sym (append_assoc l (10 ∷ bare m ls) (10 ∷ []))

split_bare : (l : List ℕ) (ls : List (List ℕ)) → list_any (list_any is_feed) (l ∷ ls) ≡ false → slice_split is_feed (bare l ls) ≡ l ∷ ls
split_bare l [] e = split_none is_feed l (left_fails (list_any is_feed l) _ e)
split_bare l (m ∷ ls) e = split_at is_feed l 10 (bare m ls) (left_fails (list_any is_feed l) _ e) refl ∙ ap (λ t. l ∷ t) (split_bare m ls (right_fails (list_any is_feed l) _ e))

last_byte : (b : List ℕ) (c : ℕ) → slice_index (b ++ c ∷ []) (length b) ≡ c
last_byte [] c = refl
last_byte (x ∷ b) c = last_byte b c

without_feed : (b : List ℕ) → without_last_feed (b ++ 10 ∷ []) ≡ b
without_feed b =
    let n : length (b ++ 10 ∷ []) - 1 ≡ length b = omega (arith, length_push b 10) in
    ap (λ k. if slice_index (b ++ 10 ∷ []) k == 10 then take k (b ++ 10 ∷ []) else b ++ 10 ∷ []) n
    ∙ ap (λ c. if c == 10 then take (length b) (b ++ 10 ∷ []) else b ++ 10 ∷ []) (last_byte b 10)
    ∙ take-append_seam b (10 ∷ [])

not_none : (b : List ℕ) → (length (b ++ 10 ∷ []) == 0) ≡ false
not_none b = let n = length_push b 10 in grind (arith, nat_tests)

lines_again : (ls : List (List ℕ)) → list_any (list_any is_feed) ls ≡ false → lines_of (flat_map ended ls) ≡ ls
lines_again [] e = refl
lines_again (l ∷ ls) e =
    ap lines_of (text_is l ls)
    ∙ ap (λ b. if b then [] else slice_split is_feed (without_last_feed (bare l ls ++ 10 ∷ []))) (not_none (bare l ls))
    ∙ ap (slice_split is_feed) (without_feed (bare l ls))
    ∙ split_bare l ls e

-- ---- lines in their layout

separator_no_feed : (b : ℕ) → is_separator b ≡ true → is_feed b ≡ false
separator_no_feed b e = grind (arith, nat_tests)

separator_known : (b : ℕ) → is_separator b ≡ true → is_foreign b ≡ false
separator_known b e = grind (arith, nat_tests)

feeds_kept : (d : ℕ) (lines : List (List ℕ)) → list_any (list_any is_feed) (formatted_lines d lines) ≡ list_any (list_any is_feed) lines
feeds_kept d [] = refl
feeds_kept d (l ∷ ls) = rw (same_bytes is_feed separator_no_feed d l, feeds_kept (depth_after d (pieces_of l)) ls) refl

pub formatted_lines_of : (text : List ℕ) → lines_of (formatted text) ≡ formatted_lines 0 (lines_of text)
formatted_lines_of text = lines_again (formatted_lines 0 (lines_of text)) (feeds_kept 0 (lines_of text) ∙ no_feeds text)

words_kept : (d : ℕ) (lines : List (List ℕ)) → map words_of (formatted_lines d lines) ≡ map words_of lines
words_kept d [] = refl
words_kept d (l ∷ ls) = rw (words_again d l, words_kept (depth_after d (pieces_of l)) ls) refl

twice : (d : ℕ) (lines : List (List ℕ)) → formatted_lines d (formatted_lines d lines) ≡ formatted_lines d lines
twice d [] = refl
twice d (l ∷ ls) =
    ap (λ ps. formatted_line d ps ∷ formatted_lines (depth_after d ps) (formatted_lines (depth_after d (pieces_of l)) ls)) (pieces_again d l)
    ∙ ap (λ t. formatted_line d (pieces_of l) ∷ t) (twice (depth_after d (pieces_of l)) ls)

pub formatted_twice : (text : List ℕ) → formatted (formatted text) ≡ formatted text
formatted_twice text = ap (λ ls. flat_map ended (formatted_lines 0 ls)) (formatted_lines_of text) ∙ ap (flat_map ended) (twice 0 (lines_of text))

-- ---- the checks

foreign_at : (d : ℕ) (lines : List (List ℕ)) (k : ℕ) → option_map_or (list_any is_foreign) (slice_get (formatted_lines d lines) k) false ≡ option_map_or (list_any is_foreign) (slice_get lines k) false
foreign_at d [] k = refl
foreign_at d (l ∷ ls) zero = same_bytes is_foreign separator_known d l
foreign_at d (l ∷ ls) (suc k) = foreign_at (depth_after d (pieces_of l)) ls k

foreign_on : (d : ℕ) (lines : List (List ℕ)) (n : ℕ) → on_line (λ k line. list_any is_foreign line) (formatted_lines d lines) n ≡ on_line (λ k line. list_any is_foreign line) lines n
foreign_on d lines zero = refl
foreign_on d lines (suc k) = foreign_at d lines k

short_enough : (text : List ℕ) → length text ≤ MOST_BYTES → nat_lt MOST_BYTES (length text) ≡ false
short_enough text le = grind (arith, nat_tests)

module _ (text : List ℕ) (short : length text ≤ MOST_BYTES) (fits : length (formatted text) ≤ MOST_BYTES) where
  same_words : (parts_of (formatted text)).words ≡ (parts_of text).words
  same_words = ap (map words_of) (formatted_lines_of text) ∙ words_kept 0 (lines_of text)

  same_said : (parts_of (formatted text)).said ≡ (parts_of text).said
  same_said = ap (map line_of) same_words

  same_length : (n : ℕ) → fails TooLong (parts_of (formatted text)) n ≡ fails TooLong (parts_of text) n
  same_length n = ap (λ b. on_whole b n) (short_enough (formatted text) fits ∙ sym (short_enough text short))

  same_foreign : (n : ℕ) → fails NotAscii (parts_of (formatted text)) n ≡ fails NotAscii (parts_of text) n
  same_foreign n = ap (λ ls. on_line (λ k line. list_any is_foreign line) ls n) (formatted_lines_of text) ∙ foreign_on 0 (lines_of text) n

  same_line : (f : Fault) (n : ℕ) → on_line (line_fails f (parts_of (formatted text)).said) (parts_of (formatted text)).said n ≡ on_line (line_fails f (parts_of text).said) (parts_of text).said n
  same_line f n = ap (λ s. on_line (line_fails f s) s n) same_said

  same_checks : (f : Fault) (n : ℕ) → fails f (parts_of (formatted text)) n ≡ fails f (parts_of text) n
  same_checks TooLong n = same_length n
  same_checks NotAscii n = same_foreign n
  same_checks BadLine n = same_line BadLine n
  same_checks BadNumber n = ap (λ ws. on_line (λ k words. list_any is_bad_number words) ws n) same_words
  same_checks DoubleName n = same_line DoubleName n
  same_checks UnknownName n = same_line UnknownName n
  same_checks WrongKind n = same_line WrongKind n
  same_checks WrongCount n = same_line WrongCount n
  same_checks OpenBlock n = same_line OpenBlock n
  same_checks Compatible n = same_line Compatible n
  same_checks NoMain n = ap (λ s. on_whole (not (list_any is_main s)) n) same_said
  same_checks TooMany n = same_line TooMany n
  same_checks Memory n = same_line Memory n

  all_checks : ◌≡◌ {A = Fault → ℕ → Bool} (λ f. fails f (parts_of (formatted text))) (λ f. fails f (parts_of text))
  all_checks = λ i f n. same_checks f n i

  pub same_script : (s : Script) → Spells text s ↔ Spells (formatted text) s
  same_script s = (
    λ spelled. record {
      accepted = subst (λ g. AllByRecursion (λ f. (n : ℕ) → g f n ≡ false) checks) (sym all_checks) spelled.accepted;
      version = spelled.version ∙ ap version_of (sym same_said);
      lines = spelled.lines ∙ ap (filter says_something) (sym same_said);
    },
    λ spelled. record {
      accepted = subst (λ g. AllByRecursion (λ f. (n : ℕ) → g f n ≡ false) checks) all_checks spelled.accepted;
      version = spelled.version ∙ ap version_of same_said;
      lines = spelled.lines ∙ ap (filter says_something) same_said;
    },
  )

  pub spell_the_same : SpellTheSame text (formatted text)
  spell_the_same = record {
    script = same_script;
    fault = λ f n. (subst (λ g. IsFirstOf g f n) (sym all_checks), subst (λ g. IsFirstOf g f n) all_checks);
  }
