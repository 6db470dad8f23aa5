-- The code of a script is sound.
use Rattle.std.proofs.Common.{◌≡◌, ℕ, pos, ◌<◌, ◌≤◌, Bool, true, false, ◌&&◌, ltb, codes, List, [], ◌∷◌, ◌++◌, length, map, Option, Some, None, refl, sym, ap, ◌∙◌, subst, arith}
use Rattle.std.specs.Prelude.{if◌then◌else◌, is_some}
use Rattle.std.specs.Ordering.{int_eq}
use Rattle.std.specs.List.{list_any, list_all, slice_get}
use Rattle.std.specs.Option.{option_map, option_map_or}
use Rattle.std.specs.Str.{bytes_eq}
use Rattle.std.proofs.lemmas.List.{length-map, length-append}
use Rattle.std.proofs.lemmas.List.Folds.{list_all-append}
use Rattle.std.proofs.lemmas.Option.{slice_get-map, slice_get_within}
use Rattle.std.proofs.lemmas.Bool.{and_parts, and_from, lt-ltb}
use Rattle.std.proofs.lemmas.Bool.Decides.{Decides-eqb}
use Rattle.lvish_syntax.specs.Name.{has_name, has_repeat, is_known}
use Rattle.lvish_syntax.specs.Nested.{statements, nested, row_nested, all_nested}
use Rattle.lvish_syntax.specs.Sound.{variable_names, pool_names, procedure_names, kind_of, variable_of, locals_of, takes, side_kind, kind_at, is_of_kind, is_apart, is_total_threshold, is_read_of, kind_there, is_put_sound, is_get_sound, is_threshold_known, is_value_known, is_pool_of, is_pool_known, is_command_sound, is_own_sound, is_procedure_sound}
use Rattle.lvish_code.specs.Vocabulary.{Word, Variable, Pool, SimpleKind, Cell, Set, Max, VariableKind, Simple, Map, Pair, Tally, Term, LetValue, Threshold, Declaration, Command, Procedure, Script, Statement, out-Statement, Target, First, Second, Wanted, Instruction, BackUnlessZero, GoOn, Return, Routine}
use Rattle.lvish_syntax.specs.declared.term.Term.TheVariants.{Local, Number}
use Rattle.lvish_syntax.specs.declared.let_value.LetValue.TheVariants.{Same, Combined}
use Rattle.lvish_syntax.specs.declared.threshold.Threshold.TheVariants.{Any, In, Has, Least, Total}
use Rattle.lvish_syntax.specs.declared.command.Command.TheVariants as c
use Rattle.lvish_syntax.specs.declared.statement.Statement.{Do, If', IfElse', While', Row_of-Statement, end_of-Statement, more_of-Statement}
use Rattle.lvish_syntax.specs.declared.statement.Statement.TheViews.{outs-Do, outs-If', outs-IfElse', outs-While'}
use Rattle.lvish_code.specs.declared.target.Target.TheVariants as t
use Rattle.lvish_code.specs.Numbering.{name_number}
use Rattle.lvish_code.specs.Compile.{Names, names_of, local_names, variable_kinds, pool_variables, operand_of, expression_of, wanted_of, whole_of, side_of, part_of, whole, part, command_code, statement_code, row_code, list_code, routine_of}
use Rattle.lvish_code.specs.Sound as code
use Rattle.lvish_code.specs.Sound.{IsRoutineSound, IsCodeSound, is_operand_sound, is_expression_sound, is_same_kind, is_target_sound, target_kind, is_wanted_of, is_wanted_sound, is_on, is_instruction_sound}
use Rattle.lvish_code.specs.laws.Lists.{list_all_get, none_get, place_below}
use Rattle.lvish_code.specs.laws.Names.{text_is, taking, parameters_le, has_local, kind_found, count_kinds, count_pools, pool_found}
use Rattle.lvish_code.proofs.Landing.{routine_lands}
use Rattle.lvish_syntax.specs.declared.limits.TheConstants.{MOST}

-- ---- kinds

same_itself : (k : SimpleKind) → is_same_kind k k ≡ true
same_itself Cell = refl
same_itself Set = refl
same_itself Max = refl

-- what a put or get is about, where it has this kind
pub record Fits (n : ℕ) (kind : Option VariableKind) (k : SimpleKind) (t : Target) : Type 0 where
  pub sound : is_target_sound kind n t ≡ true
  pub kind_is : target_kind t ≡ Some k

module _ (names : Names) (n : ℕ) where
  pub whole_fits : (o : Option VariableKind) (k : SimpleKind) → option_map_or (λ j. kind_at j None) o None ≡ Some k → Fits n o k (whole_of o)
  whole_fits (Some (Simple j)) k e = let s : j ≡ k = cc in record { sound = same_itself j; kind_is = ap Some s }
  whole_fits o k e = absurd cc

  side_fits : (a b : SimpleKind) (t : Term) (k : SimpleKind) → side_kind a b t ≡ Some k → Fits n (Some (Pair a b)) k (side_of a b t)
  side_fits a b (Local x) k e = absurd cc
  side_fits a b (Number z) k e = go (int_eq z (pos 1)) (int_eq z (pos 2)) e
    where
      go : (p q : Bool) → (if p then Some a else if q then Some b else None) ≡ Some k → Fits n (Some (Pair a b)) k (if p then t.Side First a else t.Side Second b)
      go true q e = let s : a ≡ k = cc in record { sound = same_itself a; kind_is = ap Some s }
      go false true e = let s : b ≡ k = cc in record { sound = same_itself b; kind_is = ap Some s }
      go false false e = absurd cc

  pub part_fits : (o : Option VariableKind) (t : Term) (k : SimpleKind) → is_operand_sound n (operand_of names t) ≡ true → option_map_or (λ j. kind_at j (Some t)) o None ≡ Some k → Fits n o k (part_of names o t)
  part_fits (Some Map) t k h e = let s : Cell ≡ k = cc in record { sound = h; kind_is = ap Some s }
  part_fits (Some (Pair a b)) t k h e = side_fits a b t k e
  part_fits (Some Tally) t k h e = let s : Max ≡ k = cc in record { sound = h; kind_is = ap Some s }
  part_fits o t k h e = absurd cc

-- what a get is about has what it waits for
pub record Gets (n : ℕ) (kind : Option VariableKind) (t : Target) (w : Wanted) : Type 0 where
  pub sound : is_target_sound kind n t ≡ true
  pub waits : is_wanted_sound (target_kind t) n w ≡ true

-- ---- options

some_is : {X : Type 0} (o : Option X) → is_some o ≡ true → (x : X) × (o ≡ Some x)
some_is None e = absurd cc
some_is (Some x) e = (x, refl)

passes : {X : Type 0} (f : X → Bool) (o : Option X) → option_map_or f o false ≡ true → (x : X) × (o ≡ Some x) × (f x ≡ true)
passes f None e = absurd cc
passes f (Some x) e = (x, refl, e)

module _ (script : Script) where
  abbrev ds : List Declaration
  ds = script.declarations

  abbrev ps : List Procedure
  ps = script.procedures

  abbrev V : List Word
  V = variable_names ds

  abbrev K : List VariableKind
  K = variable_kinds ds

  abbrev Q : List ℕ
  Q = pool_variables V ds

  abbrev rs : List Routine
  rs = map (λ p. routine_of (names_of script p) p) ps

  -- ---- what is declared

  kind_there_is : (v : Word) (at : Option Term) (k : SimpleKind) → kind_there ds v at ≡ Some k → option_map_or (λ j. kind_at j at) (slice_get K (name_number V v)) None ≡ Some k
  kind_there_is v at k e = ap (λ o. option_map_or (λ j. kind_at j at) o None) (kind_found v ds) ∙ e

  variable_there : (v : Word) → is_some (kind_of v ds) ≡ true → ltb (name_number V v) (length K) ≡ true
  variable_there v e = let s = some_is (kind_of v ds) e in lt-ltb _ _ (slice_get_within K (name_number V v) s.0 (kind_found v ds ∙ s.1))

  pool_there : (q : Word) → has_name q (pool_names ds) ≡ true → ltb (name_number (pool_names ds) q) (length Q) ≡ true
  pool_there q e = lt-ltb _ _ (subst (λ m. name_number (pool_names ds) q < m) (sym (count_pools V ds)) (place_below (λ y. bytes_eq y q) (pool_names ds) e))

  takes_there : (n : Word) (k : ℕ) → list_any (takes n k) ps ≡ true → code.takes_count k (slice_get rs (name_number (procedure_names ps) n)) ≡ true
  takes_there n k e =
      let t = taking n k ps script.sound.procedures_differ e in
      ap (code.takes_count k) (slice_get-map (λ p. routine_of (names_of script p) p) ps (name_number (procedure_names ps) n) ∙ ap (option_map (λ p. routine_of (names_of script p) p)) t.at) ∙ (Decides-eqb _ _).1 t.count

  pool_on : (v q : Word) → is_pool_of ds v q ≡ true → is_on (name_number V v) (slice_get Q (name_number (pool_names ds) q)) ≡ true
  pool_on v q e =
      let s = passes (λ w. bytes_eq w v) (variable_of q ds) e in
      let same : s.0 ≡ v = text_is s.0 v s.2 in
      ap (is_on (name_number V v)) (pool_found V q ds ∙ ap (option_map (name_number V)) s.1) ∙ (Decides-eqb _ _).1 (ap (name_number V) same)

  pools_on : (v : Word) (qs : List Word) → list_all (is_pool_of ds v) qs ≡ true → list_all (λ q. is_on (name_number V v) (slice_get Q q)) (map (name_number (pool_names ds)) qs) ≡ true
  pools_on v [] e = refl
  pools_on v (q ∷ qs) e = let h = and_parts (is_pool_of ds v q) (list_all (is_pool_of ds v) qs) e in and_from _ _ (pool_on v q h.0) (pools_on v qs h.1)

  module _ (p : Procedure) where
    abbrev names : Names
    names = names_of script p

    abbrev n : ℕ
    n = length (local_names p)

    local_there : (x : Word) → has_name x (locals_of p) ≡ true → ltb (name_number (local_names p) x) n ≡ true
    local_there x e = lt-ltb _ _ (place_below (λ y. bytes_eq y x) (local_names p) (has_local x p e))

    operand_there : (t : Term) → is_known (locals_of p) t ≡ true → is_operand_sound n (operand_of names t) ≡ true
    operand_there (Local x) e = local_there x e
    operand_there (Number z) e = refl

    operands_there : (ts : List Term) → list_all (is_known (locals_of p)) ts ≡ true → list_all (is_operand_sound n) (map (operand_of names) ts) ≡ true
    operands_there [] e = refl
    operands_there (t ∷ ts) e = let h = and_parts (is_known (locals_of p) t) (list_all (is_known (locals_of p)) ts) e in and_from _ _ (operand_there t h.0) (operands_there ts h.1)

    expression_there : (a : LetValue) → is_value_known (locals_of p) a ≡ true → is_expression_sound n (expression_of names a) ≡ true
    expression_there (Same t) e = operand_there t e
    expression_there (Combined a o b) e = let h = and_parts (is_known (locals_of p) a) (is_known (locals_of p) b) e in and_from _ _ (operand_there a h.0) (operand_there b h.1)

    wanted_there : (k : SimpleKind) (w : Threshold) → (is_of_kind k w && is_apart k w) ≡ true → is_threshold_known (locals_of p) w ≡ true → is_wanted_of k n (wanted_of names w) ≡ true
    wanted_there Cell Any e h = refl
    wanted_there Cell (In zs) e h = refl
    wanted_there Set (In zs) e h = e
    wanted_there Set (Has t) e h = operand_there t h
    wanted_there Max (In zs) e h = e
    wanted_there Max (Least t) e h = operand_there t h
    wanted_there k w e h = absurd cc

    total_there : (w : Threshold) → is_total_threshold w ≡ true → is_threshold_known (locals_of p) w ≡ true → is_wanted_sound None n (wanted_of names w) ≡ true
    total_there (Total t) e h = operand_there t h
    total_there w e h = absurd cc

    -- a get of what has a kind
    gets_of : (o : Option VariableKind) (k : SimpleKind) (t : Target) (w : Threshold) → Fits n o k t → (is_of_kind k w && is_apart k w) ≡ true → is_threshold_known (locals_of p) w ≡ true → Gets n o t (wanted_of names w)
    gets_of o k t w f e h = record { sound = f.sound; waits = ap (λ j. is_wanted_sound j n (wanted_of names w)) f.kind_is ∙ wanted_there k w e h }

    -- whether a get on a variable of this kind fits
    abbrev GetFits : Option VariableKind → Option Term → Threshold → Type 0
    GetFits o at w = (option_map_or (λ k. is_read_of k at w) o false && option_map_or (λ k. is_apart k w) (option_map_or (λ k. kind_at k at) o None) true) ≡ true

    whole_gets : (o : Option VariableKind) (w : Threshold) → GetFits o None w → is_threshold_known (locals_of p) w ≡ true → Gets n o (whole_of o) (wanted_of names w)
    whole_gets (Some (Simple k)) w e h = gets_of (Some (Simple k)) k (whole_of (Some (Simple k))) w (whole_fits names n (Some (Simple k)) k refl) e h
    whole_gets (Some Tally) w e h = record { sound = refl; waits = total_there w (and_parts (is_total_threshold w) true e).0 h }
    whole_gets o w e h = absurd cc

    part_gets : (o : Option VariableKind) (t : Term) (w : Threshold) → is_operand_sound n (operand_of names t) ≡ true → GetFits o (Some t) w → is_threshold_known (locals_of p) w ≡ true → Gets n o (part_of names o t) (wanted_of names w)
    part_gets None t w g e h = absurd cc
    part_gets (Some j) t w g e h = by (kind_at j (Some t)) refl e
      where
        by : (k : Option SimpleKind) → kind_at j (Some t) ≡ k → (option_map_or (λ s. is_of_kind s w) k false && option_map_or (λ s. is_apart s w) k true) ≡ true → Gets n (Some j) (part_of names (Some j) t) (wanted_of names w)
        by None is f = absurd cc
        by (Some k) is f = gets_of (Some j) k (part_of names (Some j) t) w (part_fits names n (Some j) t k g is) f h

    -- ---- statements

    get_fits : (v : Word) (at : Option Term) (w : Threshold) → is_get_sound ds v at w ≡ true → GetFits (slice_get K (name_number V v)) at w
    get_fits v at w e = subst (λ o. GetFits o at w) (sym (kind_found v ds)) e

    terms_there : (m : Word) (ts : List Term) → (list_any (takes m (length ts)) ps && list_all (is_known (locals_of p)) ts) ≡ true → (code.takes_count (length (map (operand_of names) ts)) (slice_get rs (name_number (procedure_names ps) m)) && list_all (is_operand_sound n) (map (operand_of names) ts)) ≡ true
    terms_there m ts e =
        let h = and_parts (list_any (takes m (length ts)) ps) (list_all (is_known (locals_of p)) ts) e in
        and_from _ _ (ap (λ k. code.takes_count k (slice_get rs (name_number (procedure_names ps) m))) (length-map ts _) ∙ takes_there m (length ts) h.0) (operands_there ts h.1)

    put_there : (v : Word) (a : Term) (k : SimpleKind) (t : Target) → Fits n (slice_get K (name_number V v)) k t → is_known (locals_of p) a ≡ true → (is_some (target_kind t) && is_target_sound (slice_get K (name_number V v)) n t && is_operand_sound n (operand_of names a)) ≡ true
    put_there v a k t f e = and_from _ _ (and_from _ _ (ap is_some f.kind_is) f.sound) (operand_there a e)

    get_there : (x v : Word) (w : Threshold) (t : Target) → Gets n (slice_get K (name_number V v)) t (wanted_of names w) → has_name x (locals_of p) ≡ true → (ltb (name_number (local_names p) x) n && is_target_sound (slice_get K (name_number V v)) n t && is_wanted_sound (target_kind t) n (wanted_of names w)) ≡ true
    get_there x v w t f e = and_from _ _ (and_from _ _ (local_there x e) f.sound) f.waits

    freeze_there : (x v : Word) (qs : List Word) → (has_name x (locals_of p) && is_some (kind_of v ds) && list_all (is_pool_of ds v) qs) ≡ true → (ltb (name_number (local_names p) x) n && ltb (name_number V v) (length K) && list_all (λ q. is_on (name_number V v) (slice_get Q q)) (map (name_number (pool_names ds)) qs)) ≡ true
    freeze_there x v qs e =
        let h = and_parts _ _ e in
        let g = and_parts _ _ h.0 in
        and_from _ _ (and_from _ _ (local_there x g.0) (variable_there v g.1)) (pools_on v qs h.1)

    command_there : (c : Command) → is_command_sound ds ps (locals_of p) c ≡ true → is_instruction_sound K Q rs n (command_code names c) ≡ true
    command_there (c.Let x a) e = let h = and_parts _ _ e in and_from _ _ (local_there x h.0) (expression_there a h.1)
    command_there (c.Put v a) e =
        let h = and_parts (is_put_sound ds v None) (is_known (locals_of p) a) e in
        let s = some_is (kind_there ds v None) h.0 in
        put_there v a s.0 (whole names v) (whole_fits names n _ s.0 (kind_there_is v None s.0 s.1)) h.1
    command_there (c.PutAt v k a) e =
        let h = and_parts (is_put_sound ds v (Some k) && is_known (locals_of p) k) (is_known (locals_of p) a) e in
        let g = and_parts (is_put_sound ds v (Some k)) (is_known (locals_of p) k) h.0 in
        let s = some_is (kind_there ds v (Some k)) g.0 in
        put_there v a s.0 (part names v k) (part_fits names n _ k s.0 (operand_there k g.1) (kind_there_is v (Some k) s.0 s.1)) h.1
    command_there (c.Get x v w) e =
        let h = and_parts (has_name x (locals_of p) && is_get_sound ds v None w) (is_threshold_known (locals_of p) w) e in
        let g = and_parts (has_name x (locals_of p)) (is_get_sound ds v None w) h.0 in
        get_there x v w (whole names v) (whole_gets _ w (get_fits v None w g.1) h.1) g.0
    command_there (c.GetAt x v k w) e =
        let h = and_parts (has_name x (locals_of p) && is_get_sound ds v (Some k) w && is_known (locals_of p) k) (is_threshold_known (locals_of p) w) e in
        let g = and_parts (has_name x (locals_of p) && is_get_sound ds v (Some k) w) (is_known (locals_of p) k) h.0 in
        let f = and_parts (has_name x (locals_of p)) (is_get_sound ds v (Some k) w) g.0 in
        get_there x v w (part names v k) (part_gets _ k w (operand_there k g.1) (get_fits v (Some k) w f.1) h.1) f.0
    command_there (c.Fork m ts) e = terms_there m ts e
    command_there (c.Call m ts) e = terms_there m ts e
    command_there (c.Handle q m) e =
        let h = and_parts (has_name q (pool_names ds)) (list_any (takes m 2) ps) e in
        and_from _ _ (pool_there q h.0) (takes_there m 2 h.1)
    command_there (c.Freeze x v qs) e = and_from _ _ (freeze_there x v qs e) refl
    command_there (c.FreezeEach x v qs m) e = let h = and_parts _ _ e in and_from _ _ (freeze_there x v qs h.0) (takes_there m 2 h.1)

    -- ---- statements and those within them

    abbrev own : Statement → Bool
    own s = is_own_sound ds ps (locals_of p) (out-Statement s)

    abbrev there : Instruction → Bool
    there i = is_instruction_sound K Q rs n i

    mutual
      statement_there : (s : Statement) → list_all own (nested s) ≡ true → list_all there (statement_code names s) ≡ true
      statement_there (Do c) e =
          let h = and_parts (own (Do c)) true e in
          and_from _ _ (command_there c (sym (ap (is_own_sound ds ps (locals_of p)) (outs-Do c)) ∙ h.0)) refl
      statement_there (If' t s a) e =
          let h = and_parts (own (If' t s a)) (list_all own (row_nested a)) e in
          and_from _ _ (operand_there t (sym (ap (is_own_sound ds ps (locals_of p)) (outs-If' t s a)) ∙ h.0)) (row_there a h.1)
      statement_there (IfElse' t s a r b) e =
          let h = and_parts (own (IfElse' t s a r b)) (list_all own (row_nested a ++ row_nested b)) e in
          let g = and_parts (list_all own (row_nested a)) (list_all own (row_nested b)) (sym (list_all-append own (row_nested a) (row_nested b)) ∙ h.1) in
          let cb = row_code names b in
          and_from _ _ (operand_there t (sym (ap (is_own_sound ds ps (locals_of p)) (outs-IfElse' t s a r b)) ∙ h.0))
          (list_all-append there (row_code names a) (GoOn (length cb) ∷ cb) ∙ and_from _ _ (row_there a g.0) (row_there b g.1))
      statement_there (While' t s a) e =
          let h = and_parts (own (While' t s a)) (list_all own (row_nested a)) e in
          let tested = operand_there t (sym (ap (is_own_sound ds ps (locals_of p)) (outs-While' t s a)) ∙ h.0) in
          let ca = row_code names a in
          and_from _ _ tested
          (list_all-append there ca (BackUnlessZero (operand_of names t) (length ca) ∷ []) ∙ and_from _ _ (row_there a h.1) (and_from _ _ tested refl))

      row_there : {m : _} (r : Row_of-Statement m) → list_all own (row_nested r) ≡ true → list_all there (row_code names r) ≡ true
      row_there end_of-Statement e = refl
      row_there (more_of-Statement s rest) e =
          let h = and_parts (list_all own (nested s)) (list_all own (row_nested rest)) (sym (list_all-append own (nested s) (row_nested rest)) ∙ e) in
          list_all-append there (statement_code names s) (row_code names rest) ∙ and_from _ _ (statement_there s h.0) (row_there rest h.1)

    list_there : (ss : List Statement) → list_all own (all_nested ss) ≡ true → list_all there (list_code names ss) ≡ true
    list_there [] e = refl
    list_there (s ∷ ss) e =
        let h = and_parts (list_all own (nested s)) (list_all own (all_nested ss)) (sym (list_all-append own (nested s) (all_nested ss)) ∙ e) in
        list_all-append there (statement_code names s) (list_code names ss) ∙ and_from _ _ (statement_there s h.0) (list_there ss h.1)

    -- ---- the routine

    routine_there : has_repeat p.parameters ≡ false → is_procedure_sound ds ps p ≡ true → IsRoutineSound K Q rs (routine_of names p)
    routine_there once e =
        let body = list_code names (statements p.body) in
        let len = length-append body (Return ∷ []) in
        record {
          parameters = parameters_le p once;
          begins = omega arith;
          instructions = list_all-append there body (Return ∷ []) ∙ and_from _ _ (list_there (statements p.body) e) refl;
          landing = routine_lands names p;
        }

  all_there : (k : ℕ) (r : Routine) → slice_get rs k ≡ Some r → IsRoutineSound K Q rs r
  all_there k r e = go (slice_get ps k) refl (sym (slice_get-map (λ p. routine_of (names_of script p) p) ps k) ∙ e)
    where
      go : (o : Option Procedure) → slice_get ps k ≡ o → option_map (λ p. routine_of (names_of script p) p) o ≡ Some r → IsRoutineSound K Q rs r
      go None is h = absurd cc
      go (Some p) is h =
          let same : routine_of (names_of script p) p ≡ r = cc in
          subst (IsRoutineSound K Q rs) same
          (routine_there p (none_get (λ q. has_repeat q.parameters) ps k p script.sound.parameters_differ is) (list_all_get (is_procedure_sound ds ps) ps k p script.sound.statements_sound is))

  pools_there : (es : List Declaration) → list_all (is_pool_known ds) es ≡ true → list_all (λ v. ltb v (length K)) (pool_variables V es) ≡ true
  pools_there [] e = refl
  pools_there (Variable m k ∷ es) e = pools_there es (and_parts (is_pool_known ds (Variable m k)) (list_all (is_pool_known ds) es) e).1
  pools_there (Pool q v ∷ es) e =
      let h = and_parts (has_name v V) (list_all (is_pool_known ds) es) e in
      and_from _ _ (lt-ltb _ _ (subst (λ m. name_number V v < m) (sym (count_kinds ds)) (place_below (λ y. bytes_eq y v) V h.0))) (pools_there es h.1)

  pub code_sound : IsCodeSound K Q (name_number (procedure_names ps) (codes "main")) rs
  code_sound = record {
    few_variables = subst (λ m. m ≤ MOST) (sym (count_kinds ds)) script.sound.few_variables;
    few_pools = subst (λ m. m ≤ MOST) (sym (count_pools V ds)) script.sound.few_pools;
    few_routines = subst (λ m. m ≤ MOST) (sym (length-map ps (λ p. routine_of (names_of script p) p))) script.sound.few_procedures;
    pools_known = pools_there ds script.sound.pools_known;
    main_takes = takes_there (codes "main") 0 script.sound.main_stands;
    routines_sound = all_there;
  }

  -- also where its parts are known by equations
  pub code_sound_by : (kinds : List VariableKind) (pools : List ℕ) (m : ℕ) (routines : List Routine) → kinds ≡ K → pools ≡ Q → m ≡ name_number (procedure_names ps) (codes "main") → routines ≡ rs → IsCodeSound kinds pools m routines
  code_sound_by kinds pools m routines a b d e =
      let same : IsCodeSound K Q (name_number (procedure_names ps) (codes "main")) rs ≡ IsCodeSound kinds pools m routines = cc in subst (λ X. X) same code_sound
