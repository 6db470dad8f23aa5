-- What the checks passed on the lines of a script say of the script.
use Rattle.std.proofs.Common.{◌≡◌, Bool, true, false, not, ◌||◌, ◌&&◌, nat_lt, List, [], ◌∷◌, ◌++◌, Option, Some, None, refl, sym, ap, subst, ◌∙◌, append_assoc}
use Rattle.std.specs.Option.{option_map_or}
use Rattle.std.specs.List.{list_any, list_all, flat_map}
use Rattle.std.specs.Str.{bytes_eq}
use Rattle.std.proofs.Math.Bool.{or-true}
use Rattle.std.proofs.lemmas.Bool.{and_from, and_parts, or_from, or_parts, not-false}
use Rattle.std.proofs.lemmas.List.{append-nil, map-append}
use Rattle.std.proofs.lemmas.List.Folds.{list_any-append}
use Rattle.std.proofs.lemmas.Grind.{flat_map-append}
use Rattle.lvish_syntax.specs.Words.{Word, is_name}
use Rattle.lvish_syntax.specs.Name.{has_name, has_repeat, is_known}
use Rattle.lvish_syntax.specs.Nested.{statements, all_depth}
use Rattle.lvish_syntax.specs.Written.{is_declaration_written, is_own_written, is_procedure_written}
use Rattle.lvish_syntax.specs.Version.{is_name_in, is_declaration_in, is_own_in, is_procedure_in}
use Rattle.lvish_script.specs.Vocabulary.{Version, Declaration, Variable, Pool, Procedure, Block, Statement, Line, Declare, Proc, Do, If, While, End, InProcedure}
use Rattle.lvish_syntax.specs.Sound as sound
use Rattle.lvish_syntax.specs.Sound.{IsSound, variable_name, variable_names, pool_name, procedure_names, own_binds, locals_of, is_pool_known, is_own_sound, is_procedure_sound}
use Rattle.lvish_syntax.specs.declared.statement.Statement.TheOpen as o
use Rattle.lvish_checks.specs.Checks.{has_procedure, is_main, is_procedure, declares_again, binds, binds_until_procedure, locals_after, locals_step, is_line_in, command_unknown, command_misfits, command_mixes, open_after}
use Rattle.lvish_script.specs.Spells.{body_lines, procedure_lines, script_lines}
use Rattle.lvish_checks.proofs.Cuts.{left_fails, right_fails, same_name, all_by_cut, none_by_cut, few_by_cut, differ_by_cut}
use Rattle.lvish_script.proofs.Cleaned.{Fine, locals_in}
use Rattle.lvish_checks.proofs.Meanings.{is_line_written}
use Rattle.lvish_script.proofs.Bodies.{ByParts, own_line, all_of_body, all_of_script, flat_of_body, no_procedures, locals_inside, binds_inside}
use Rattle.lvish_script.proofs.Commands.{command_is, is_line_sound, line_is_own}
use Rattle.lvish_script.proofs.Levels.{open_append, goes, has_room, goes_by_cut, room_of_body, limit_here}
use Rattle.lvish_script.proofs.Declaring.{heads, declared, declared_heads, procedures_declared, main_declared, none_open, few_names, names_differ, one_variable, one_pool, few_variables_before, few_pools_before, few_procedures_before, new_variable, new_pool, known_further, follow_by_cut}
use Rattle.lvish_syntax.specs.declared.limits.TheConstants.{MOST}

-- ---- the locals at a line of a procedure

among_all : (front rest : List Word) (x : Word) → has_name x (front ++ x ∷ rest) ≡ true
among_all [] rest x = ap (λ b. b || has_name x rest) (same_name x)
among_all (y ∷ front) rest x = ap (λ b. bytes_eq y x || b) (among_all front rest x) ∙ or-true (bytes_eq y x)

all_among : (front mid rest : List Word) → list_all (λ x. has_name x (front ++ (mid ++ rest))) mid ≡ true
all_among front [] rest = refl
all_among front (x ∷ mid) rest =
    and_from (has_name x (front ++ (x ∷ (mid ++ rest)))) _ (among_all front (mid ++ rest) x)
    (ap (λ t. list_all (λ y. has_name y t) mid) (sym (append_assoc front (x ∷ []) (mid ++ rest))) ∙ all_among (front ++ x ∷ []) mid rest)

locals_append : (found : Option (List Word)) (xs ys : List Line) → locals_after found (xs ++ ys) ≡ locals_after (locals_after found xs) ys
locals_append found [] ys = refl
locals_append found (x ∷ xs) ys = locals_append (locals_step found x) xs ys

nothing_after : (ps : List Procedure) → binds_until_procedure (flat_map procedure_lines ps) ≡ []
nothing_after [] = refl
nothing_after (r ∷ ps) = refl

binds_same : (u : o.Statement-F Statement Block) → binds (own_line u) ≡ own_binds u
binds_same (o.Do c) = refl
binds_same (o.If t a) = refl
binds_same (o.IfElse t a b) = refl
binds_same (o.While t a) = refl

body_binds : (ss : List Statement) → flat_map binds (body_lines ss) ≡ sound.binds ss
body_binds ss = flat_of_body binds own_binds binds_same refl refl ss

none_parts : (p : Line → Bool) (xs ys : List Line) → list_any p (xs ++ ys) ≡ false → (list_any p xs ≡ false) × (list_any p ys ≡ false)
none_parts p xs ys e = or_parts (list_any p xs) (list_any p ys) (sym (list_any-append p xs ys) ∙ e)

-- the lines up to a procedure's, and those after its body
abbrev pub lines_to : List Declaration → List Procedure → Procedure → List Line
lines_to ds q r = script_lines ds q ++ Proc r.name r.parameters ∷ []

abbrev pub lines_from : List Procedure → List Line
lines_from more = End ∷ flat_map procedure_lines more

procedure_at : (ds : List Declaration) (q : List Procedure) (r : Procedure) (more : List Procedure) → script_lines ds (q ++ r ∷ more) ≡ lines_to ds q r ++ (body_lines (statements r.body) ++ lines_from more)
procedure_at ds q r more = simp (append_assoc, flat_map-append)

module _ (ds : List Declaration) (q : List Procedure) (r : Procedure) (more : List Procedure) (b : List Line) (l : Line) (a : List Line) (e : body_lines (statements r.body) ≡ b ++ l ∷ a) where
  none_here : list_any is_procedure (b ++ l ∷ a) ≡ false
  none_here = ap (list_any is_procedure) (sym e) ∙ no_procedures (statements r.body)

  its_locals : locals_of r ≡ r.parameters ++ (flat_map binds b ++ (binds l ++ flat_map binds a))
  its_locals = ap (λ t. r.parameters ++ t) (sym (body_binds (statements r.body)) ∙ ap (flat_map binds) e ∙ flat_map-append binds b (l ∷ a))

  locals_before : locals_after None (lines_to ds q r ++ b) ≡ Some (r.parameters ++ flat_map binds b)
  locals_before =
      ap (locals_after None) (append_assoc (script_lines ds q) (Proc r.name r.parameters ∷ []) b)
      ∙ locals_append None (script_lines ds q) (Proc r.name r.parameters ∷ b)
      ∙ locals_inside r.parameters b (none_parts is_procedure b (l ∷ a) none_here).0

  binds_here : binds_until_procedure (l ∷ (a ++ lines_from more)) ≡ binds l ++ flat_map binds a
  binds_here = binds_inside (l ∷ a) (lines_from more) (none_parts is_procedure b (l ∷ a) none_here).1 ∙ ap (λ t. (binds l ++ flat_map binds a) ++ t) (nothing_after more) ∙ append-nil (binds l ++ flat_map binds a)

  -- the locals at a line of a body are those of its procedure
  pub locals_here : locals_in (lines_to ds q r ++ b) (l ∷ (a ++ lines_from more)) ≡ locals_of r
  locals_here =
      ap (λ o. option_map_or (λ xs. xs ++ binds_until_procedure (l ∷ (a ++ lines_from more))) o []) locals_before
      ∙ ap (λ t. (r.parameters ++ flat_map binds b) ++ t) binds_here
      ∙ append_assoc r.parameters (flat_map binds b) (binds l ++ flat_map binds a) ∙ sym its_locals

  bound_here : list_all (λ x. has_name x (locals_of r)) (binds l) ≡ true
  bound_here = ap (λ t. list_all (λ x. has_name x t) (binds l)) (its_locals ∙ sym (append_assoc r.parameters (flat_map binds b) (binds l ++ flat_map binds a))) ∙ all_among (r.parameters ++ flat_map binds b) (binds l) (flat_map binds a)

  line_at : (ps : List Procedure) → ps ≡ q ++ r ∷ more → script_lines ds ps ≡ (lines_to ds q r ++ b) ++ l ∷ (a ++ lines_from more)
  line_at ps g =
      ap (script_lines ds) g ∙ procedure_at ds q r more ∙ ap (λ t. lines_to ds q r ++ (t ++ lines_from more)) e
      ∙ ap (λ t. lines_to ds q r ++ t) (append_assoc b (l ∷ a) (lines_from more)) ∙ sym (append_assoc (lines_to ds q r) b (l ∷ (a ++ lines_from more)))

-- ---- the lines of a script, by its parts

written_by_parts : ByParts is_line_written is_declaration_written (λ r. is_name r.name && list_all is_name r.parameters) is_own_written
written_by_parts = record { at_head = λ d. refl; at_top = λ r. refl; at_own = own; at_else = refl; at_end = refl }
  where
    own : (u : o.Statement-F Statement Block) → is_line_written (own_line u) ≡ is_own_written u
    own (o.Do c) = refl
    own (o.If t a) = refl
    own (o.IfElse t a b) = refl
    own (o.While t a) = refl

-- the lines of a script can be written
pub lines_written : (ds : List Declaration) (ps : List Procedure) → list_all is_declaration_written ds ≡ true → list_all is_procedure_written ps ≡ true → list_all is_line_written (script_lines ds ps) ≡ true
lines_written ds ps e f = all_of_script is_line_written is_declaration_written _ is_own_written written_by_parts ds ps ∙ and_from _ _ e f

in_by_parts : (version : Version) → ByParts (is_line_in version) (is_declaration_in version) (λ r. is_name_in version r.name && list_all (is_name_in version) r.parameters) (is_own_in version)
in_by_parts version = record { at_head = λ d. refl; at_top = λ r. refl; at_own = own; at_else = refl; at_end = refl }
  where
    own : (u : o.Statement-F Statement Block) → is_line_in version (own_line u) ≡ is_own_in version u
    own (o.Do c) = refl
    own (o.If t a) = refl
    own (o.IfElse t a b) = refl
    own (o.While t a) = refl

-- the lines of a script stand in its version
pub lines_in : (version : Version) (ds : List Declaration) (ps : List Procedure) → list_all (is_declaration_in version) ds ≡ true → list_all (is_procedure_in version) ps ≡ true → list_all (is_line_in version) (script_lines ds ps) ≡ true
lines_in version ds ps e f = all_of_script (is_line_in version) (is_declaration_in version) _ (is_own_in version) (in_by_parts version) ds ps ∙ and_from _ _ e f

-- ---- all of it

-- what the checks say of the lines of a script
pub record Checked (version : Version) (ls : List Line) : Type 0 where
  pub fine : (b : List Line) (x : Line) (a : List Line) → ls ≡ b ++ x ∷ a → Fine ls b x a
  pub main : list_any is_main ls ≡ true
  pub written : list_all is_line_written ls ≡ true
  pub versioned : list_all (is_line_in version) ls ≡ true

module _ (version : Version) (ds : List Declaration) (ps : List Procedure) (checked : Checked version (script_lines ds ps)) where
  declaration_cut : (b : List Declaration) (d : Declaration) (a : List Declaration) → ds ≡ b ++ d ∷ a → script_lines ds ps ≡ heads b ++ (Declare d ∷ (heads a ++ flat_map procedure_lines ps))
  declaration_cut b d a e = rw e (simp (append_assoc, map-append))

  procedure_cut : (q : List Procedure) (r : Procedure) (more : List Procedure) → ps ≡ q ++ r ∷ more → script_lines ds ps ≡ script_lines ds q ++ (Proc r.name r.parameters ∷ (body_lines (statements r.body) ++ lines_from more))
  procedure_cut q r more e = ap (script_lines ds) e ∙ procedure_at ds q r more ∙ append_assoc (script_lines ds q) (Proc r.name r.parameters ∷ []) (body_lines (statements r.body) ++ lines_from more)

  procedure_again : (q : List Procedure) (r : Procedure) (more : List Procedure) → ps ≡ q ++ r ∷ more → declares_again (script_lines ds q) (Proc r.name r.parameters) ≡ false
  procedure_again q r more e = (checked.fine (script_lines ds q) (Proc r.name r.parameters) _ (procedure_cut q r more e)).again

  differ : has_repeat (procedure_names ps) ≡ false
  differ = differ_by_cut (λ (r : Procedure). r.name) ps (λ q r more e. sym (procedures_declared r.name ds q) ∙ left_fails (has_procedure r.name (script_lines ds q)) (has_repeat r.parameters) (procedure_again q r more e))

  line_sound : (q : List Procedure) (r : Procedure) (more : List Procedure) → ps ≡ q ++ r ∷ more → (b : List Line) (l : Line) (a : List Line) → body_lines (statements r.body) ≡ b ++ l ∷ a → is_line_sound ds ps (locals_of r) l ≡ true
  line_sound q r more g b (Do c) a e =
      let fine = checked.fine (lines_to ds q r ++ b) (Do c) (a ++ lines_from more) (line_at ds q r more b (Do c) a e ps g) in
      let un : command_unknown (script_lines ds ps) (locals_of r) c ≡ false = ap (λ t. command_unknown (script_lines ds ps) t c) (sym (locals_here ds q r more b (Do c) a e)) ∙ fine.unknown in
      let mis : command_misfits ds c ≡ false = ap (λ t. command_misfits t c) (sym (declared ds ps)) ∙ fine.kinds in
      let mix : command_mixes ds c ≡ false = ap (λ t. command_mixes t c) (sym (declared ds ps)) ∙ fine.apart in
      command_is ds ps differ (locals_of r) c ∙ and_from _ _ (bound_here ds q r more b (Do c) a e) (ap not (or_from _ _ (or_from _ _ (or_from _ _ un mis) fine.counts) mix))
  line_sound q r more g b (If t) a e =
      ap (λ w. is_known w t) (sym (locals_here ds q r more b (If t) a e)) ∙ not-false _ ((checked.fine (lines_to ds q r ++ b) (If t) (a ++ lines_from more) (line_at ds q r more b (If t) a e ps g)).unknown)
  line_sound q r more g b (While t) a e =
      ap (λ w. is_known w t) (sym (locals_here ds q r more b (While t) a e)) ∙ not-false _ ((checked.fine (lines_to ds q r ++ b) (While t) (a ++ lines_from more) (line_at ds q r more b (While t) a e ps g)).unknown)
  line_sound q r more g b l a e = refl

  procedure_sound : (q : List Procedure) (r : Procedure) (more : List Procedure) → ps ≡ q ++ r ∷ more → is_procedure_sound ds ps r ≡ true
  procedure_sound q r more g =
      sym (all_of_body (is_line_sound ds ps (locals_of r)) (is_own_sound ds ps (locals_of r)) (line_is_own ds ps (locals_of r)) refl refl (statements r.body))
      ∙ all_by_cut (is_line_sound ds ps (locals_of r)) (body_lines (statements r.body)) (line_sound q r more g)

  declaration_fine : (b : List Declaration) (d : Declaration) (a : List Declaration) → ds ≡ b ++ d ∷ a → Fine (script_lines ds ps) (heads b) (Declare d) (heads a ++ flat_map procedure_lines ps)
  declaration_fine b d a e = checked.fine (heads b) (Declare d) _ (declaration_cut b d a e)

  open_here : (q : List Procedure) (r : Procedure) → open_after [] (lines_to ds q r) ≡ InProcedure ∷ []
  open_here q r = open_append [] (script_lines ds q) (Proc r.name r.parameters ∷ []) ∙ ap (λ os. open_after os (Proc r.name r.parameters ∷ [])) (none_open ds q)

  procedure_shallow : (q : List Procedure) (r : Procedure) (more : List Procedure) → ps ≡ q ++ r ∷ more → nat_lt (all_depth (statements r.body)) MOST ≡ true
  procedure_shallow q r more g =
      sym (room_of_body (statements r.body))
      ∙ subst (λ os. goes has_room os (body_lines (statements r.body)) ≡ true) (open_here q r)
      (goes_by_cut has_room (lines_to ds q r) (body_lines (statements r.body)) (λ b l a e. limit_here (lines_to ds q r ++ b) l (checked.fine (lines_to ds q r ++ b) l (a ++ lines_from more) (line_at ds q r more b l a e ps g)).few))

  pool_above : (b : List Declaration) (d : Declaration) (a : List Declaration) → ds ≡ b ++ d ∷ a → is_pool_known b d ≡ true
  pool_above b (Variable n k) a e = refl
  pool_above b (Pool p v) a e =
      ap (λ t. has_name v (variable_names t)) (sym (declared_heads b)) ∙ not-false _ (declaration_fine b (Pool p v) a e).unknown

  all_written : (list_all is_declaration_written ds && list_all is_procedure_written ps) ≡ true
  all_written = sym (all_of_script is_line_written is_declaration_written _ is_own_written written_by_parts ds ps) ∙ checked.written

  all_in : (list_all (is_declaration_in version) ds && list_all (is_procedure_in version) ps) ≡ true
  all_in = sym (all_of_script (is_line_in version) (is_declaration_in version) _ (is_own_in version) (in_by_parts version) ds ps) ∙ checked.versioned

  -- the checks passed on the lines make the script sound
  pub sound_from_checks : IsSound version ds ps
  sound_from_checks =
      record {
        statements_sound = all_by_cut (is_procedure_sound ds ps) ps procedure_sound;
        parameters_differ = none_by_cut (λ r. has_repeat r.parameters) ps (λ q r more e. right_fails (has_procedure r.name (script_lines ds q)) (has_repeat r.parameters) (procedure_again q r more e));
        variables_differ = names_differ variable_name one_variable ds (λ b d a v e w. new_variable d b v w (declaration_fine b d a e).again);
        pools_differ = names_differ pool_name one_pool ds (λ b d a v e w. new_pool d b v w (declaration_fine b d a e).again);
        procedures_differ = differ;
        pools_known = all_by_cut (is_pool_known ds) ds (λ b d a e. ap (λ t. is_pool_known t d) e ∙ known_further b d (d ∷ a) (pool_above b d a e));
        few_variables = few_names variable_name one_variable ds MOST (λ b d a e k. few_variables_before d b k (declaration_fine b d a e).few);
        few_pools = few_names pool_name one_pool ds MOST (λ b d a e k. few_pools_before d b k (declaration_fine b d a e).few);
        few_procedures = few_by_cut MOST ps (λ q r more e. few_procedures_before r ds q (checked.fine (script_lines ds q) (Proc r.name r.parameters) _ (procedure_cut q r more e)).few);
        shallow = all_by_cut (λ p. nat_lt (all_depth (statements p.body)) MOST) ps procedure_shallow;
        pools_follow = follow_by_cut [] ds pool_above;
        declarations_written = (and_parts _ _ all_written).0;
        procedures_written = (and_parts _ _ all_written).1;
        declarations_versioned = (and_parts _ _ all_in).0;
        procedures_versioned = (and_parts _ _ all_in).1;
        main_stands = sym (main_declared ds ps) ∙ checked.main;
      }
