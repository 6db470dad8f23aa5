-- The canonical text of a script, read again.
use Rattle.std.proofs.Common.{◌≡◌, ℕ, ◌≤◌, true, false, List, ◌++◌, length, map, sym, ap, subst, ◌∙◌, arith}
use Rattle.std.specs.Prelude.{filter, nat_lt}
use Rattle.std.specs.List.{list_all}
use Rattle.std.proofs.lemmas.Bool.Decides.{nat_tests}
use Rattle.lvish_script.specs.Vocabulary.{Version, One, Two, Line}
use Rattle.lvish_syntax.specs.declared.script.Script.{Script}
use Rattle.lvish_checks.specs.Checks.{IsAccepted, parts_of, version_of}
use Rattle.lvish_checks.specs.Text.{words_of}
use Rattle.lvish_checks.specs.Form.{line_of}
use Rattle.lvish_script.specs.Spells.{Spells, version_lines, script_lines, says_something}
use Rattle.lvish_script.specs.Canonical.{canonical_lines, text_of}
use Rattle.lvish_checks.proofs.Meanings.{is_line_written}
use Rattle.lvish_script.proofs.Soundness.{lines_written}
use Rattle.lvish_script.proofs.Reading.{made}
use Rattle.lvish_script.proofs.Reread.{is_good}
use Rattle.lvish_script.proofs.Texts.{lines_are, words_are, said_are, all_good, all_say}
use Rattle.lvish_script.proofs.Accepting.{said_under, version_under, accepted}
use Rattle.lvish_syntax.specs.declared.limits.TheConstants.{MOST_BYTES}

-- the line of a version before others

written_under : (v : Version) (ls : List Line) → list_all is_line_written ls ≡ true → list_all is_line_written (version_lines v ++ ls) ≡ true
written_under One ls e = e
written_under Two ls e = e

good_under : (v : Version) (ls : List Line) → list_all is_good ls ≡ true → list_all is_good (version_lines v ++ ls) ≡ true
good_under One ls e = e
good_under Two ls e = e

all_written : (s : Script) → list_all is_line_written (canonical_lines s) ≡ true
all_written s = written_under s.version _ (lines_written s.declarations s.procedures s.sound.declarations_written s.sound.procedures_written)

lines_good : (s : Script) → list_all is_good (canonical_lines s) ≡ true
lines_good s = good_under s.version _ (all_good s.declarations s.procedures)

pub said_again : (s : Script) → (parts_of (text_of s)).said ≡ canonical_lines s
said_again s =
    let ls = canonical_lines s in
    let w = all_written s in
    ap (λ t. map line_of (map words_of t)) (lines_are ls w) ∙ ap (map line_of) (words_are ls w) ∙ said_are ls w (lines_good s)

short_text : (n : ℕ) → n ≤ MOST_BYTES → nat_lt MOST_BYTES n ≡ false
short_text n h = grind (arith, nat_tests)

pub spelled_again : (s : Script) → length (text_of s) ≤ MOST_BYTES → Spells (text_of s) s
spelled_again s short =
    let ls = canonical_lines s in
    let w = all_written s in
    let same = made (text_of s) _ _ ls (sym (lines_are ls w)) (sym (words_are ls w)) (sym (said_are ls w (lines_good s))) in
    record {
      accepted = subst IsAccepted same (accepted s.version s.declarations s.procedures s.sound (text_of s) (short_text (length (text_of s)) short) w);
      version = sym (ap version_of (said_again s) ∙ version_under s.version s.declarations s.procedures);
      lines = sym (ap (filter says_something) (said_again s) ∙ said_under s.version (script_lines s.declarations s.procedures) ∙ all_say s.declarations s.procedures);
    }
