-- What holds of a text that passes each check.
use Rattle.std.proofs.Common.{◌≡◌, ℕ, zero, suc, Bool, true, false, not, List, [], ◌∷◌, length, map, take, refl, sym, ap, ◌∙◌, arith}
use Rattle.std.specs.Prelude.{filter, nat_lt, slice_get}
use Rattle.std.specs.Option.{option_map_or}
use Rattle.std.specs.List.{list_any, list_all}
use Rattle.std.proofs.lemmas.Bool.{and_from, or_from, not-false}
use Rattle.lvish_syntax.specs.Sound.{IsSound}
use Rattle.lvish_script.specs.Vocabulary.{Version, Declaration, Procedure, TooLong, NotAscii, BadLine, BadNumber, DoubleName, UnknownName, WrongKind, WrongCount, OpenBlock, Compatible, NoMain, TooMany}
use Rattle.lvish_checks.specs.Text.{words_of, lines_of}
use Rattle.lvish_checks.specs.Checks.{Parts, IsFirstFault, IsAccepted, line_fails, is_main, is_out_of_place, is_line_in, version_of, parts_of}
use Rattle.lvish_script.specs.Spells.{script_lines, says_something}
use Rattle.lvish_checks.proofs.Cuts.{left_fails, right_fails}
use Rattle.lvish_checks.proofs.Order.{lines_well_placed}
use Rattle.lvish_checks.proofs.Meanings.{is_line_written}
use Rattle.lvish_checks.proofs.Spelled.{said_written}
use Rattle.lvish_script.proofs.Cleaned.{all_cleaned, any_cleaned}
use Rattle.lvish_script.proofs.Cleared.{Passed, fine_without_blanks}
use Rattle.lvish_script.proofs.Soundness.{sound_from_checks}
use Rattle.lvish_syntax.specs.declared.limits.TheConstants.{MOST_BYTES}

-- a text that is too long
pub too_long : (p : Parts) → nat_lt MOST_BYTES (length p.bytes) ≡ true → IsFirstFault p TooLong 0
too_long p e = record { passed = []; rest = NotAscii ∷ BadLine ∷ BadNumber ∷ DoubleName ∷ UnknownName ∷ WrongKind ∷ WrongCount ∷ OpenBlock ∷ Compatible ∷ NoMain ∷ TooMany ∷ []; order = refl; earlier = tt; lowest = record { at = e; below = λ m lt. absurd (omega arith) } }

-- a test that fails on no line holds of no line
pub none_on : {X : Type 0} (test : ℕ → X → Bool) (p : X → Bool) → ((k : ℕ) (x : X) → test k x ≡ false → p x ≡ false) → (xs : List X) → ((k : ℕ) → option_map_or (test k) (slice_get xs k) false ≡ false) → list_any p xs ≡ false
none_on test p h [] e = refl
none_on test p h (x ∷ xs) e = or_from (p x) _ (h zero x (e zero)) (none_on (λ k. test (suc k)) p (λ k. h (suc k)) xs (λ k. e (suc k)))

all_of_none : {X : Type 0} (p : X → Bool) (xs : List X) → list_any (λ x. not (p x)) xs ≡ false → list_all p xs ≡ true
all_of_none p [] e = refl
all_of_none p (x ∷ xs) e = and_from (p x) _ (not-false _ (left_fails (not (p x)) _ e)) (all_of_none p xs (right_fails (not (p x)) _ e))

-- the lines of an accepted text stand in its version
lines_versioned : (p : Parts) → IsAccepted p → list_all (is_line_in (version_of p.said)) p.said ≡ true
lines_versioned p accepted =
    let v = version_of p.said in
    all_of_none (is_line_in v) p.said
    (none_on (line_fails BadLine p.said) (λ l. not (is_line_in v l)) (λ k l e. right_fails (is_out_of_place (take k p.said) l) _ e) p.said (λ k. lines_well_placed p accepted (suc k)))

-- a script whose version and lines are those of an accepted text is sound
pub sound_when_accepted : (text : List ℕ) (version : Version) (ds : List Declaration) (ps : List Procedure) → version ≡ version_of (parts_of text).said → script_lines ds ps ≡ filter says_something (parts_of text).said → IsAccepted (parts_of text) → IsSound version ds ps
sound_when_accepted text version ds ps same clean accepted =
    let said = (parts_of text).said in
    let passed : Passed said = record {
      again = accepted.1.1.1.1.0;
      unknown = accepted.1.1.1.1.1.0;
      kinds = accepted.1.1.1.1.1.1.0;
      counts = accepted.1.1.1.1.1.1.1.0;
      apart = accepted.1.1.1.1.1.1.1.1.1.0;
      few = accepted.1.1.1.1.1.1.1.1.1.1.1.0;
    } in
    sound_from_checks version ds ps (record {
      fine = fine_without_blanks said (script_lines ds ps) (sym clean) passed;
      main = ap (list_any is_main) clean ∙ sym (any_cleaned is_main refl refl said) ∙ not-false _ (accepted.1.1.1.1.1.1.1.1.1.1.0 0);
      written = ap (list_all is_line_written) clean ∙ all_cleaned is_line_written said (said_written (map words_of (lines_of text)));
      versioned = ap (list_all (is_line_in version)) clean ∙ all_cleaned (is_line_in version) said (ap (λ v. list_all (is_line_in v) said) same ∙ lines_versioned (parts_of text) accepted);
    })
