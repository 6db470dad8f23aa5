use Rattle.std.proofs.Common.{◌≡◌, List, ap, ◌∙◌, codes, map}
use Rattle.lvish_syntax.specs.Sound.{variable_names, pool_names, procedure_names}
use Rattle.lvish_code.specs.Vocabulary.{Word, VariableKind, Declaration, Procedure, Script, Routine}
use Rattle.lvish_code.specs.declared.tables.Tables.{Tables}
use Rattle.lvish_code.specs.Numbering.{name_number, each_once}
use Rattle.lvish_code.specs.Compile.{names_of, local_names, variable_kinds, pool_variables, routine_of}
use Rattle.lvish_code.specs.InScope.{names_with}
use Rattle.lvish_code.specs.laws.Names.{all_once}
use Rattle.lvish_code.proofs.CodeSound.{code_sound_by}
use Rattle.lvish_code.proofs.code.Code.new.Goals as goal

abbrev by : List Word → List VariableKind → List Word → List Word → List Procedure → List Routine
by vs ks qs ns ps = map (λ p. routine_of (record { variables = vs; kinds = ks; pools = qs; procedures = ns; locals = local_names p }) p) ps

same_by : (vs ws : List Word) (ks js : List VariableKind) (qs rs ns ms : List Word) (ps os : List Procedure) → vs ≡ ws → ks ≡ js → qs ≡ rs → ns ≡ ms → ps ≡ os → by vs ks qs ns ps ≡ by ws js rs ms os
same_by vs ws ks js qs rs ns ms ps os a b d e f =
    ap (λ l. by l ks qs ns ps) a ∙ ap (λ l. by ws l qs ns ps) b ∙ ap (λ l. by ws js l ns ps) d ∙ ap (λ l. by ws js rs l ps) e ∙ ap (by ws js rs ms) f

-- the parts of the code, by the tables
parts : (script : Script) (t : Tables) (ds es : List Declaration) (ps os : List Procedure) → ds ≡ script.declarations → es ≡ script.declarations → ps ≡ script.procedures → os ≡ script.procedures
    → t.variables ≡ each_once (variable_names ds) → t.kinds ≡ variable_kinds ds → t.pools ≡ each_once (pool_names ds) → t.procedures ≡ each_once (procedure_names ps)
    → (t.kinds ≡ variable_kinds script.declarations) × (pool_variables t.variables es ≡ pool_variables (variable_names script.declarations) script.declarations) × (name_number t.procedures (codes "main") ≡ name_number (procedure_names script.procedures) (codes "main")) × (map (λ p. routine_of (names_with t (local_names p)) p) os ≡ map (λ p. routine_of (names_of script p) p) script.procedures)
parts script t ds es ps os a b c d variables kinds pools procedures =
    let v = variables ∙ ap (λ l. each_once (variable_names l)) a ∙ all_once (variable_names script.declarations) script.sound.variables_differ in
    let k = kinds ∙ ap variable_kinds a in
    let q = pools ∙ ap (λ l. each_once (pool_names l)) a ∙ all_once (pool_names script.declarations) script.sound.pools_differ in
    let n = procedures ∙ ap (λ l. each_once (procedure_names l)) c ∙ all_once (procedure_names script.procedures) script.sound.procedures_differ in
    (k, ap (pool_variables t.variables) b ∙ ap (λ l. pool_variables l script.declarations) v, ap (λ l. name_number l (codes "main")) n, same_by _ _ _ _ _ _ _ _ _ _ v k q n d)

pub invariant_of-result : goal.invariant_of-result
invariant_of-result c =
    let tables = c.in_ok-tables.ensures in
    let e = parts c.args.script.now c.in_ok-tables.tables _ _ _ _ c.declarations.ensures.value c.declarations-2.ensures.value c.procedures.ensures.value c.procedures-2.ensures.value tables.variables tables.kinds tables.pools tables.procedures in
    (code_sound_by c.args.script.now _ _ _ _ (c.into_kinds.ensures ∙ e.0) (c.in_ok-pools.ensures ∙ e.1) (c.number_of-main.ensures ∙ e.2) (c.in_ok-routines.ensures ∙ e.3), tt)

pub returns : goal.returns
returns c =
    let tables = c.in_ok-tables.ensures in
    let e = parts c.args.script.now c.in_ok-tables.tables _ _ _ _ c.declarations.ensures.value c.declarations-2.ensures.value c.procedures.ensures.value c.procedures-2.ensures.value tables.variables tables.kinds tables.pools tables.procedures in
    record { kinds = c.into_kinds.ensures ∙ e.0; pools = c.in_ok-pools.ensures ∙ e.1; main = c.number_of-main.ensures ∙ e.2; routines = c.in_ok-routines.ensures ∙ e.3 }
