-- The words of a text that spells a script.
use Rattle.std.proofs.Common.{◌≡◌, ◌≢◌, ℕ, zero, suc, Bool, true, false, not, ◌||◌, ◌&&◌, List, [], ◌∷◌, ◌++◌, map, Option, Some, None, refl, sym, ap, subst, ◌∙◌, append_assoc}
use Rattle.std.specs.Prelude.{filter, slice_get, take}
use Rattle.std.specs.Option.{option_map_or}
use Rattle.std.specs.List.{AllZip, list_any}
use Rattle.std.proofs.Math.Bool.{or-true, or-false}
use Rattle.std.proofs.lemmas.Bool.{and_from}
use Rattle.std.proofs.lemmas.List.{append-nil}
use Rattle.std.proofs.lemmas.List.Folds.{list_any-append}
use Rattle.lvish_script.specs.Vocabulary.{Word, Line, Blank, Bad, Versioned, BadLine}
use Rattle.lvish_syntax.specs.declared.script.Script.{Script}
use Rattle.lvish_checks.specs.Form.{is_bad_number, line_of}
use Rattle.lvish_checks.specs.Checks.{line_fails, is_out_of_place, is_told, is_nil, version_of, parts_of}
use Rattle.lvish_checks.specs.Spelling.{line_words, Agree}
use Rattle.lvish_checks.proofs.Cuts.{left_fails, right_fails}
use Rattle.lvish_checks.proofs.Spelled.{its_words}
use Rattle.lvish_script.specs.Spells.{Spells, version_lines, says_something}
use Rattle.lvish_script.specs.Canonical.{canonical_lines, text_words, script_words}
use Rattle.lvish_script.proofs.Accepted.{none_on}

abbrev is_bad : Line → Bool
is_bad Bad = true
is_bad l = false

not_bad : (before : List Line) (l : Line) → is_out_of_place before l ≡ false → is_bad l ≡ false
not_bad before Bad e = e
not_bad before l e = refl

of_form : (l : Line) → is_bad l ≡ false → l ≢ Bad
of_form l e f = let b : is_bad l ≡ true = ap is_bad f in absurd cc

-- a line with words isn't blank
says : (w : Word) (ws : List Word) (l : Line) → Agree (w ∷ ws) (line_words l) → is_told l ≡ true
says w ws Blank h = absurd h
says w ws l h = refl

kept : {X : Type 0} (p : X → Bool) (x : X) (xs : List X) → p x ≡ true → filter p (x ∷ xs) ≡ x ∷ filter p xs
kept p x xs e = rw e refl

by_line : (wss : List (List Word)) → list_any is_bad (map line_of wss) ≡ false → list_any (λ ws. list_any is_bad_number ws) wss ≡ false → AllZip Agree (filter (λ ws. not (is_nil ws)) wss) (map line_words (filter is_told (map line_of wss)))
by_line [] e g = tt
by_line ([] ∷ wss) e g = by_line wss e g
by_line ((w ∷ ws) ∷ wss) e g =
    let here = its_words (w ∷ ws) (left_fails _ _ g) (of_form (line_of (w ∷ ws)) (left_fails _ _ e)) in
    subst (λ t. AllZip Agree ((w ∷ ws) ∷ filter (λ ws. not (is_nil ws)) wss) (map line_words t))
    (sym (kept is_told (line_of (w ∷ ws)) (map line_of wss) (says w ws (line_of (w ∷ ws)) here)))
    (here, by_line wss (right_fails (is_bad (line_of (w ∷ ws))) _ e) (right_fails (list_any is_bad_number (w ∷ ws)) _ g))

-- ---- the line of the version, and those that say something beside it

-- no line that says a version stands below one with words
abbrev none_late : Bool → List Line → Bool
none_late told [] = true
none_late told (Blank ∷ ls) = none_late told ls
none_late told (Versioned ∷ ls) = not told && none_late true ls
none_late told (l ∷ ls) = none_late true ls

told_pushed : (before : List Line) (l : Line) → list_any is_told (before ++ l ∷ []) ≡ (list_any is_told before || is_told l)
told_pushed before l = list_any-append is_told before (l ∷ []) ∙ ap (λ b. list_any is_told before || b) (or-false (is_told l))

-- each line stands where it may below those before it
abbrev StandWell : List Line → List Line → Type 0
StandWell before ls = (k : ℕ) → option_map_or (λ l. is_out_of_place (before ++ take k ls) l) (slice_get ls k) false ≡ false

stand_on : (before : List Line) (l : Line) (ls : List Line) → StandWell before (l ∷ ls) → StandWell (before ++ l ∷ []) ls
stand_on before l ls h k = ap (λ t. option_map_or (λ x. is_out_of_place t x) (slice_get ls k) false) (append_assoc before (l ∷ []) (take k ls)) ∙ h (suc k)

well_headed : (before ls : List Line) (told : Bool) → list_any is_told before ≡ told → StandWell before ls → none_late told ls ≡ true
well_headed before [] told e h = refl
well_headed before (Blank ∷ ls) told e h = well_headed (before ++ Blank ∷ []) ls told (told_pushed before Blank ∙ or-false (list_any is_told before) ∙ e) (stand_on before Blank ls h)
well_headed before (Versioned ∷ ls) told e h =
    let here : list_any is_told before ≡ false = ap (list_any is_told) (sym (append-nil before)) ∙ h zero in
    and_from (not told) _ (ap not (sym e ∙ here)) (well_headed (before ++ Versioned ∷ []) ls true (told_pushed before Versioned ∙ or-true (list_any is_told before)) (stand_on before Versioned ls h))
well_headed before (l ∷ ls) told e h = well_headed (before ++ l ∷ []) ls true (told_pushed before l ∙ or-true (list_any is_told before)) (stand_on before l ls h)

none_below : (ls : List Line) → none_late true ls ≡ true → filter is_told ls ≡ filter says_something ls
none_below [] e = refl
none_below (Blank ∷ ls) e = none_below ls e
none_below (Versioned ∷ ls) e = absurd cc
none_below (l ∷ ls) e = ap (λ t. l ∷ t) (none_below ls e)

-- the lines with words are that of the version, where there is one, and those that say something beside it
parted : (ls : List Line) → none_late false ls ≡ true → filter is_told ls ≡ version_lines (version_of ls) ++ filter says_something ls
parted [] e = refl
parted (Blank ∷ ls) e = parted ls e
parted (Versioned ∷ ls) e = ap (λ t. Versioned ∷ t) (none_below ls e)
parted (l ∷ ls) e = ap (λ t. l ∷ t) (none_below ls e)

pub its_scripts_words : (text : List ℕ) (s : Script) → Spells text s → AllZip Agree (text_words text) (script_words s)
its_scripts_words text s h =
    let wss = (parts_of text).words in
    let said = map line_of wss in
    let placed = h.accepted.1.1.0 in
    let numbers = h.accepted.1.1.1.0 in
    let forms : list_any is_bad said ≡ false = none_on (line_fails BadLine said) is_bad (λ k l e. not_bad (take k said) l (left_fails (is_out_of_place (take k said) l) _ e)) said (λ k. placed (suc k)) in
    let good : list_any (λ ws. list_any is_bad_number ws) wss ≡ false = none_on (λ k ws. list_any is_bad_number ws) (λ ws. list_any is_bad_number ws) (λ k ws e. e) wss (λ k. numbers (suc k)) in
    let headed : none_late false said ≡ true = well_headed [] said false refl (λ k. in_place said (slice_get said k) k (placed (suc k))) in
    let all : filter is_told said ≡ canonical_lines s = parted said headed ∙ ap (λ v. version_lines v ++ filter says_something said) (sym h.version) ∙ ap (λ ls. version_lines s.version ++ ls) (sym h.lines) in
    subst (λ ls. AllZip Agree (text_words text) (map line_words ls)) all (by_line wss forms good)
  where
    in_place : (said : List Line) (o : Option Line) (k : ℕ) → option_map_or (line_fails BadLine said k) o false ≡ false → option_map_or (λ l. is_out_of_place (take k said) l) o false ≡ false
    in_place said None k e = refl
    in_place said (Some l) k e = left_fails (is_out_of_place (take k said) l) _ e
