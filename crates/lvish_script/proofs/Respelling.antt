-- What lines say whose words agree with those of a script.
use Rattle.std.proofs.Common.{◌≡◌, ◌≢◌, true, List, [], ◌∷◌, map, refl, sym, ap, ◌∙◌}
use Rattle.std.specs.List.{list_all, AllZip}
use Rattle.lvish_syntax.specs.Words.{Word}
use Rattle.lvish_syntax.specs.declared.script.Script.{Script}
use Rattle.lvish_script.specs.Vocabulary.{Line}
use Rattle.lvish_checks.specs.declared.line.Line.TheVariants as line
use Rattle.lvish_checks.specs.Form.{line_of}
use Rattle.lvish_checks.specs.Spelling.{line_words, Agree}
use Rattle.lvish_checks.proofs.Cuts.{left_holds, right_holds}
use Rattle.lvish_checks.proofs.Meanings.{is_line_written}
use Rattle.lvish_checks.proofs.Respelled.{same_form}
use Rattle.lvish_script.specs.Spells.{script_lines}
use Rattle.lvish_script.proofs.Reread.{line_back}
use Rattle.lvish_script.proofs.Soundness.{lines_written}
use Rattle.lvish_script.proofs.Texts.{is_own, own_good, all_own}

own_form : (l : Line) → is_own l ≡ true → l ≢ line.Bad
own_form l own e = let same = ap is_own e in absurd cc

own_words : (l : Line) → is_own l ≡ true → l ≢ line.Version
own_words l own e = let same = ap is_own e in absurd cc

respelled : (lines : List (List Word)) (ls : List Line) → list_all is_line_written ls ≡ true → list_all is_own ls ≡ true → AllZip Agree lines (map line_words ls) → map line_of lines ≡ ls
respelled [] [] e g h = refl
respelled [] (l ∷ ls) e g h = absurd h
respelled (ws ∷ lines) [] e g h = absurd h
respelled (ws ∷ lines) (l ∷ ls) e g h =
    let own = left_holds (is_own l) _ g in
    let back = line_back l (left_holds (is_line_written l) _ e) (own_good l own) in
    let said : line_of ws ≡ l = same_form ws (line_words l) h.0 (λ b. own_form l own (sym back ∙ b)) (λ v. own_words l own (sym back ∙ v)) ∙ back in
    let others = respelled lines ls (right_holds (is_line_written l) _ e) (right_holds (is_own l) _ g) h.1 in
    λ i. said i ∷ others i

pub says_its_lines : (s : Script) (lines : List (List Word)) → AllZip Agree lines (map line_words (script_lines s.declarations s.procedures)) → map line_of lines ≡ script_lines s.declarations s.procedures
says_its_lines s lines h = respelled lines _ (lines_written s.declarations s.procedures s.sound.declarations_written s.sound.procedures_written) (all_own s.declarations s.procedures) h
