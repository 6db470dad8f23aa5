-- The lines of a sound script pass each check.
use Rattle.std.proofs.Common.{◌≡◌, ℕ, zero, suc, ◌≤◌, Bool, true, false, not, ◌&&◌, nat_lt, ◌==◌, List, [], ◌∷◌, ◌++◌, length, map, take, refl, sym, ap, subst, ◌∙◌}
use Rattle.std.proofs.Math.Bool.{and-false}
use Rattle.std.proofs.lemmas.Bool.{and_parts, or_from, not-true}
use Rattle.std.specs.Prelude.{filter, nat_le, nat_lt, slice_get}
use Rattle.std.specs.Option.{option_map_or}
use Rattle.std.specs.List.{list_any, list_all}
use Rattle.std.proofs.lemmas.List.{map-append}
use Rattle.std.proofs.lemmas.Grind.{flat_map-append}
use Rattle.std.proofs.lemmas.List.Folds.{list_any-append}
use Rattle.lvish_script.specs.Vocabulary.{Word, Version, One, Two, Declaration, Variable, Pool, Command, Procedure, Line, Bad, Versioned, Declare, Proc, Do, If, While, End, InProcedure}
use Rattle.lvish_syntax.specs.Name.{has_name, has_repeat}
use Rattle.lvish_syntax.specs.Nested.{statements, all_depth}
use Rattle.lvish_syntax.specs.Sound.{IsSound, variable_name, variable_names, pool_name, pool_names, procedure_names, locals_of, follow_variables, is_command_sound, is_own_sound, is_procedure_sound}
use Rattle.lvish_checks.specs.Checks.{Parts, IsAccepted, on_line, has_procedure, is_nil, is_main, is_procedure, version_of, is_line_in, is_out_of_place, stands_badly, declares_again, misfits, miscounts, mixes, command_unknown, command_misfits, command_miscounts, command_mixes, is_misplaced, is_past_limit, open_after}
use Rattle.lvish_checks.specs.Text.{is_foreign}
use Rattle.lvish_checks.specs.Form.{is_bad_number}
use Rattle.lvish_script.specs.Spells.{version_lines, body_lines, script_lines, says_something}
use Rattle.lvish_checks.specs.Spelling.{line_words}
use Rattle.lvish_checks.proofs.Cuts.{left_fails, right_fails}
use Rattle.lvish_checks.proofs.Order.{accepted_by, whole_passes}
use Rattle.lvish_checks.proofs.Meanings.{is_line_written}
use Rattle.lvish_script.proofs.Cleaned.{Fine, any_cleaned, locals_in, unknown_given}
use Rattle.lvish_script.proofs.Cleared.{above, passes_cuts, passed_with_blanks}
use Rattle.lvish_script.proofs.Bodies.{is_inner, inner, all_of_body}
use Rattle.lvish_script.proofs.Levels.{open_append, balanced_body, goes, goes_at, stands, well_body, has_room, room_of_body}
use Rattle.lvish_script.proofs.Declaring.{heads, any_heads, declared, declared_heads, procedures_declared, main_declared, variables_counted, pools_counted, all_counted, none_open}
use Rattle.lvish_script.proofs.Soundness.{lines_to, locals_here, lines_in}
use Rattle.lvish_script.proofs.Commands.{Passes, each_passes, command_is, is_line_sound, line_is_own}
use Rattle.lvish_script.proofs.Places.{Held, placed, no_repeat_at, few_at, follow_at, all_at_cut, any_at_cut}
use Rattle.lvish_script.proofs.Texts.{line_bytes, bytes_known, numbers_good, all_say}
use Rattle.lvish_syntax.specs.declared.limits.TheConstants.{MOST, MOST_BYTES}

none_at : {X : Type 0} (p : X → Bool) (xs : List X) (k : ℕ) → list_any p xs ≡ false → option_map_or p (slice_get xs k) false ≡ false
none_at p [] k e = refl
none_at p (x ∷ xs) zero e = left_fails (p x) _ e
none_at p (x ∷ xs) (suc k) e = none_at p xs k (right_fails (p x) _ e)

-- a test that no item passes fails on each line
none_on_line : {X : Type 0} (p : X → Bool) (xs : List X) → list_any p xs ≡ false → (l : ℕ) → on_line (λ k x. p x) xs l ≡ false
none_on_line p xs e zero = refl
none_on_line p xs e (suc k) = none_at p xs k e

-- ---- what no line in a body does

inner_place : (b : List Line) (x : Line) → is_inner x ≡ true → is_out_of_place b x ≡ false
inner_place b Bad e = absurd cc
inner_place b Versioned e = absurd cc
inner_place b (Declare d) e = absurd cc
inner_place b x e = refl

inner_name : (b : List Line) (x : Line) → is_inner x ≡ true → declares_again b x ≡ false
inner_name b (Declare d) e = absurd cc
inner_name b (Proc n xs) e = absurd cc
inner_name b x e = refl

inner_limit : (b : List Line) (x : Line) → is_inner x ≡ true → has_room (open_after [] b) x ≡ true → is_past_limit b x ≡ false
inner_limit b (Declare d) e f = absurd cc
inner_limit b (Proc n xs) e f = absurd cc
inner_limit b (If t) e f = not-true _ f
inner_limit b (While t) e f = not-true _ f
inner_limit b x e f = refl

module _ (version : Version) (ds : List Declaration) (ps : List Procedure) (sound : IsSound version ds ps) where
  variable_at : (c : List Declaration) (d : Declaration) (e : List Declaration) → ds ≡ c ++ d ∷ e → variable_names ds ≡ variable_names c ++ (variable_name d ++ variable_names e)
  variable_at c d e w = ap variable_names w ∙ flat_map-append variable_name c (d ∷ e)

  pool_at : (c : List Declaration) (d : Declaration) (e : List Declaration) → ds ≡ c ++ d ∷ e → pool_names ds ≡ pool_names c ++ (pool_name d ++ pool_names e)
  pool_at c d e w = ap pool_names w ∙ flat_map-append pool_name c (d ∷ e)

  procedure_at : (q : List Procedure) (r : Procedure) (more : List Procedure) → ps ≡ q ++ r ∷ more → procedure_names ps ≡ procedure_names q ++ r.name ∷ procedure_names more
  procedure_at q r more w = ap procedure_names w ∙ map-append (λ (p : Procedure). p.name) q (r ∷ more)

  inner_at : (r : Procedure) (c : List Line) (x : Line) (e : List Line) → body_lines (statements r.body) ≡ c ++ x ∷ e → is_inner x ≡ true
  inner_at r c x e k = all_at_cut is_inner c x e (ap (list_all is_inner) (sym k) ∙ inner (statements r.body))

  sound_at : (q : List Procedure) (r : Procedure) (more : List Procedure) → ps ≡ q ++ r ∷ more → (c : List Line) (x : Line) (e : List Line) → body_lines (statements r.body) ≡ c ++ x ∷ e → is_line_sound ds ps (locals_of r) x ≡ true
  sound_at q r more w c x e k =
      let whole : is_procedure_sound ds ps r ≡ true = all_at_cut (is_procedure_sound ds ps) q r more (ap (list_all (is_procedure_sound ds ps)) (sym w) ∙ sound.statements_sound) in
      let lines = all_of_body (is_line_sound ds ps (locals_of r)) (is_own_sound ds ps (locals_of r)) (line_is_own ds ps (locals_of r)) refl refl (statements r.body) ∙ whole in
      all_at_cut (is_line_sound ds ps (locals_of r)) c x e (ap (list_all (is_line_sound ds ps (locals_of r))) (sym k) ∙ lines)

  passed : (locals : List Word) (c : Command) → is_command_sound ds ps locals c ≡ true → Passes (command_unknown (script_lines ds ps) locals c) (command_misfits ds c) (command_miscounts (script_lines ds ps) c) (command_mixes ds c)
  passed locals c e = each_passes _ _ _ _ (and_parts _ _ (sym (command_is ds ps sound.procedures_differ locals c) ∙ e)).1

  its_lines : list_all (is_line_in version) (script_lines ds ps) ≡ true
  its_lines = lines_in version ds ps sound.declarations_versioned sound.procedures_versioned

  -- below lines without a procedure
  in_place : (above : List Line) → list_any is_procedure above ≡ false → (b : List Line) (x : Line) (a : List Line) → script_lines ds ps ≡ b ++ x ∷ a → stands_badly version (above ++ b) x ≡ false
  in_place above none b x a e =
      or_from (is_out_of_place (above ++ b) x) _ (placed ds ps (λ b x a. is_out_of_place (above ++ b) x ≡ false) held b x a e)
      (ap not (all_at_cut (is_line_in version) b x a (ap (list_all (is_line_in version)) (sym e) ∙ its_lines)))
    where
      held : Held ds ps (λ b x a. is_out_of_place (above ++ b) x ≡ false)
      held = record {
        at_head = λ c d e w a. list_any-append is_procedure above (heads c) ∙ or_from (list_any is_procedure above) _ none (any_heads is_procedure (λ d. refl) c);
        at_proc = λ q r more w a. refl;
        at_body = λ q r more w c x e k. inner_place (above ++ (lines_to ds q r ++ c)) x (inner_at r c x e k);
        at_end = λ q r more w a. refl;
      }

  fresh_head : (c : List Declaration) (d : Declaration) (e : List Declaration) → ds ≡ c ++ d ∷ e → declares_again (heads c) (Declare d) ≡ false
  fresh_head c (Variable n k) e w = ap (λ t. has_name n (variable_names t)) (declared_heads c) ∙ no_repeat_at (variable_names c) n (variable_names e) (ap has_repeat (sym (variable_at c (Variable n k) e w)) ∙ sound.variables_differ)
  fresh_head c (Pool p v) e w = ap (λ t. has_name p (pool_names t)) (declared_heads c) ∙ no_repeat_at (pool_names c) p (pool_names e) (ap has_repeat (sym (pool_at c (Pool p v) e w)) ∙ sound.pools_differ)

  fresh_procedure : (q : List Procedure) (r : Procedure) (more : List Procedure) → ps ≡ q ++ r ∷ more → declares_again (script_lines ds q) (Proc r.name r.parameters) ≡ false
  fresh_procedure q r more w =
      or_from (has_procedure r.name (script_lines ds q)) _
      (procedures_declared r.name ds q ∙ no_repeat_at (procedure_names q) r.name (procedure_names more) (ap has_repeat (sym (procedure_at q r more w)) ∙ sound.procedures_differ))
      (any_at_cut (λ (p : Procedure). has_repeat p.parameters) q r more (ap (list_any (λ (p : Procedure). has_repeat p.parameters)) (sym w) ∙ sound.parameters_differ))

  known_head : (locals : List Word) (c : List Declaration) (d : Declaration) (e : List Declaration) → ds ≡ c ++ d ∷ e → unknown_given (script_lines ds ps) (heads c) locals (Declare d) ≡ false
  known_head locals c (Variable n k) e w = refl
  known_head locals c (Pool p v) e w = ap (λ t. not (has_name v (variable_names t))) (declared_heads c) ∙ ap not (follow_at [] c (Pool p v) e (ap (follow_variables []) (sym w) ∙ sound.pools_follow))

  known_line : (before : List Line) (locals : List Word) (x : Line) → is_inner x ≡ true → is_line_sound ds ps locals x ≡ true → unknown_given (script_lines ds ps) before locals x ≡ false
  known_line before locals (Do c) e f = (passed locals c f).unknown
  known_line before locals (If t) e f = ap not f
  known_line before locals (While t) e f = ap not f
  known_line before locals (Declare d) e f = absurd cc
  known_line before locals x e f = refl

  line_passes : (locals : List Word) (x : Line) → is_line_sound ds ps locals x ≡ true → (misfits (script_lines ds ps) x ≡ false) × (miscounts (script_lines ds ps) x ≡ false) × (mixes (script_lines ds ps) x ≡ false)
  line_passes locals (Do c) f =
      let p = passed locals c f in
      (ap (λ t. command_misfits t c) (declared ds ps) ∙ p.kinds, p.counts, ap (λ t. command_mixes t c) (declared ds ps) ∙ p.apart)
  line_passes locals x f = (refl, refl, refl)

  -- what is open at a line of a body
  open_at : (q : List Procedure) (r : Procedure) (c : List Line) → open_after [] (lines_to ds q r ++ c) ≡ open_after (InProcedure ∷ []) c
  open_at q r c =
      open_append [] (lines_to ds q r) c
      ∙ ap (λ os. open_after os c) (open_append [] (script_lines ds q) (Proc r.name r.parameters ∷ []) ∙ ap (λ os. open_after os (Proc r.name r.parameters ∷ [])) (none_open ds q))

  lines_stand : Held ds ps (λ b x a. is_misplaced (open_after [] b) x ≡ false)
  lines_stand = record {
    at_head = λ c d e w a. refl;
    at_proc = λ q r more w a. ap (λ os. not (is_nil os)) (none_open ds q);
    at_body = λ q r more w c x e k. ap (λ os. is_misplaced os x) (open_at q r c) ∙ not-true _ (goes_at stands (InProcedure ∷ []) c x e (ap (goes stands (InProcedure ∷ [])) (sym k) ∙ well_body InProcedure [] (statements r.body)));
    at_end = λ q r more w a. ap (λ os. is_misplaced os End) (open_at q r (body_lines (statements r.body)) ∙ balanced_body InProcedure [] (statements r.body));
  }

  few_head : (c : List Declaration) (d : Declaration) (e : List Declaration) → ds ≡ c ++ d ∷ e → is_past_limit (heads c) (Declare d) ≡ false
  few_head c (Variable n k) e w = ap (nat_le MOST) (variables_counted c) ∙ few_at (variable_names c) (variable_names e) n (subst (λ t. length t ≤ MOST) (variable_at c (Variable n k) e w) sound.few_variables)
  few_head c (Pool p v) e w = ap (nat_le MOST) (pools_counted c) ∙ few_at (pool_names c) (pool_names e) p (subst (λ t. length t ≤ MOST) (pool_at c (Pool p v) e w) sound.few_pools)

  shallow_here : (q : List Procedure) (r : Procedure) (more : List Procedure) → ps ≡ q ++ r ∷ more → goes has_room (InProcedure ∷ []) (body_lines (statements r.body)) ≡ true
  shallow_here q r more w =
      room_of_body (statements r.body) ∙ all_at_cut (λ (p : Procedure). nat_lt (all_depth (statements p.body)) MOST) q r more (ap (list_all (λ (p : Procedure). nat_lt (all_depth (statements p.body)) MOST)) (sym w) ∙ sound.shallow)

  -- the checks that see the same without blank lines pass each line
  fine_lines : Held ds ps (Fine (script_lines ds ps))
  fine_lines = record {
    at_head = λ c d e w a. record { again = fresh_head c d e w; unknown = known_head (locals_in (heads c) (Declare d ∷ a)) c d e w; kinds = refl; counts = refl; apart = refl; few = few_head c d e w };
    at_proc = λ q r more w a. record { again = fresh_procedure q r more w; unknown = refl; kinds = refl; counts = refl; apart = refl; few = ap (nat_le MOST) (all_counted ds q) ∙ few_at q more r (subst (λ t. length t ≤ MOST) w sound.few_procedures) };
    at_body = λ q r more w c x e k. record {
      again = inner_name (lines_to ds q r ++ c) x (inner_at r c x e k);
      unknown = ap (λ t. unknown_given (script_lines ds ps) (lines_to ds q r ++ c) t x) (locals_here ds q r more c x e k) ∙ known_line (lines_to ds q r ++ c) (locals_of r) x (inner_at r c x e k) (sound_at q r more w c x e k);
      kinds = (line_passes (locals_of r) x (sound_at q r more w c x e k)).0;
      counts = (line_passes (locals_of r) x (sound_at q r more w c x e k)).1;
      apart = (line_passes (locals_of r) x (sound_at q r more w c x e k)).2;
      few = inner_limit (lines_to ds q r ++ c) x (inner_at r c x e k) (ap (λ os. has_room os x) (open_at q r c) ∙ goes_at has_room (InProcedure ∷ []) c x e (ap (goes has_room (InProcedure ∷ [])) (sym k) ∙ shallow_here q r more w));
    };
    at_end = λ q r more w a. record { again = refl; unknown = refl; kinds = refl; counts = refl; apart = refl; few = refl };
  }

  main_there : list_any is_main (script_lines ds ps) ≡ true
  main_there = main_declared ds ps ∙ sound.main_stands

-- ---- the lines of a script below that of its version

-- what holds of each line of a script holds below the line of its version, where it holds of that
under : (v : Version) (ls : List Line) (P : List Line → Line → Type 0) → P [] Versioned → ((b : List Line) (x : Line) (a : List Line) → ls ≡ b ++ x ∷ a → P (version_lines v ++ b) x) → (b : List Line) (x : Line) (a : List Line) → version_lines v ++ ls ≡ b ++ x ∷ a → P b x
under One ls P top h b x a e = h b x a e
under Two ls P top h [] x a e = let p : Versioned ≡ x = cc in subst (P []) p top
under Two ls P top h (y ∷ b) x a e =
    let p : Versioned ≡ y = cc in
    let q : ls ≡ b ++ x ∷ a = cc in
    subst (λ z. P (z ∷ b) x) p (h b x a q)

no_procedure_above : (v : Version) → list_any is_procedure (version_lines v) ≡ false
no_procedure_above One = refl
no_procedure_above Two = refl

open_under : (v : Version) (b : List Line) → open_after [] (version_lines v ++ b) ≡ open_after [] b
open_under One b = refl
open_under Two b = refl

pub said_under : (v : Version) (ls : List Line) → filter says_something (version_lines v ++ ls) ≡ filter says_something ls
said_under One ls = refl
said_under Two ls = refl

-- the lines of a script without one say version 1
first_version : (ds : List Declaration) (ps : List Procedure) → version_of (script_lines ds ps) ≡ One
first_version [] [] = refl
first_version [] (r ∷ ps) = refl
first_version (d ∷ ds) ps = refl

pub version_under : (v : Version) (ds : List Declaration) (ps : List Procedure) → version_of (version_lines v ++ script_lines ds ps) ≡ v
version_under One ds ps = first_version ds ps
version_under Two ds ps = refl

-- ---- all checks

-- the parts of the text of lines
abbrev pub parts : List Line → List ℕ → Parts
parts ls text = record { bytes = text; lines = map line_bytes ls; words = map line_words ls; said = ls }

pub accepted : (v : Version) (ds : List Declaration) (ps : List Procedure) → IsSound v ds ps → (text : List ℕ) → nat_lt MOST_BYTES (length text) ≡ false → list_all is_line_written (version_lines v ++ script_lines ds ps) ≡ true → IsAccepted (parts (version_lines v ++ script_lines ds ps) text)
accepted v ds ps sound text short w =
    let ls = version_lines v ++ script_lines ds ps in
    let clean : filter says_something ls ≡ script_lines ds ps = said_under v (script_lines ds ps) ∙ all_say ds ps in
    let passed = passed_with_blanks ls (script_lines ds ps) clean (placed ds ps (Fine (script_lines ds ps)) (fine_lines v ds ps sound)) in
    let badly : (b : List Line) (x : Line) (a : List Line) → ls ≡ b ++ x ∷ a → stands_badly v b x ≡ false = under v (script_lines ds ps) (λ b x. stands_badly v b x ≡ false) (top v) (in_place v ds ps sound (version_lines v) (no_procedure_above v)) in
    let well : (b : List Line) (x : Line) (a : List Line) → ls ≡ b ++ x ∷ a → is_misplaced (open_after [] b) x ≡ false = under v (script_lines ds ps) (λ b x. is_misplaced (open_after [] b) x ≡ false) refl (λ b x a e. ap (λ os. is_misplaced os x) (open_under v b) ∙ placed ds ps (λ b x a. is_misplaced (open_after [] b) x ≡ false) (lines_stand v ds ps sound) b x a e) in
    let main : list_any is_main ls ≡ true = any_cleaned is_main refl refl ls ∙ ap (list_any is_main) clean ∙ main_there v ds ps sound in
    accepted_by (parts ls text) (whole_passes _ short) (none_on_line (λ line. list_any is_foreign line) (map line_bytes ls) (bytes_known ls w))
    (passes_cuts _ ls (λ b x a e. ap (λ u. stands_badly u (take (length b) ls) x) (version_under v ds ps) ∙ ap (λ t. stands_badly v t x) (above ls b x a e) ∙ badly b x a e))
    (none_on_line (λ words. list_any is_bad_number words) (map line_words ls) (numbers_good ls w)) passed.again passed.unknown passed.kinds passed.counts
    (passes_cuts _ ls (λ b x a e.
    or_from (is_misplaced (open_after [] (take (length b) ls)) x) _ (ap (λ t. is_misplaced (open_after [] t) x) (above ls b x a e) ∙ well b x a e)
    (ap (λ os. suc (length b) == length ls && not (is_nil os)) (open_under v (script_lines ds ps) ∙ none_open ds ps) ∙ and-false (suc (length b) == length ls))))
    passed.apart (whole_passes _ (ap not main)) passed.few
  where
    top : (v : Version) → stands_badly v [] Versioned ≡ false
    top One = refl
    top Two = refl
