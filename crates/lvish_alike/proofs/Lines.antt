-- The instructions of a script's code name, start and freeze what the script's lines do.
use Rattle.std.proofs.Common.{◌≡◌, ℕ, ◌∙◌, List, [], ◌∷◌, ◌++◌, Option, Some, None, refl, sym, ap}
use Rattle.std.specs.Prelude.{option_map}
use Rattle.std.specs.Option.{option_map_or}
use Rattle.std.specs.List.{slice_get, flat_map, filter_map, cons_option}
use Rattle.std.proofs.lemmas.Option.{slice_get-map}
use Rattle.std.proofs.lemmas.List.{append-nil}
use Rattle.std.proofs.lemmas.List.Elements.{filter_map-append}
use Rattle.std.proofs.lemmas.Grind.{flat_map-append}
use mathlib.Core.Path.{fun_ext}
use Rattle.lvish_syntax.specs.Nested.{statements, nested, row_nested, all_nested}
use Rattle.lvish_syntax.specs.declared.command.Command.TheVariants as line
use Rattle.lvish_syntax.specs.declared.statement.Statement.{Do, If', IfElse', While', Row_of-Statement, end_of-Statement, more_of-Statement}
use Rattle.lvish_syntax.specs.declared.statement.Statement.TheViews.{outs-Do, outs-If', outs-IfElse', outs-While'}
use Rattle.lvish_code.specs.declared.operand.Operand.{Operand}
use Rattle.lvish_code.specs.Compile.{Names, names_of, command_code, statement_code, row_code, list_code, routine_of}
use Rattle.lvish_task.specs.Vocabulary.{Command, Statement, out-Statement, Procedure, Script, Instruction, SkipIfZero, BackUnlessZero, GoOn, Return}
use Rattle.lvish_task.specs.declared.script_code.ScriptCode.{ScriptCode}
use Rattle.lvish_task.specs.CodeOf.{IsScriptCodeOf}
use Rattle.lvish_task.specs.Run.{instructions_in}
use Rattle.lvish_alike.specs.Lines.{own_line, procedure_lines, lines, line_names, line_starts, line_freezes}
use Rattle.lvish_alike.specs.Alike.{outline}
use Rattle.lvish_alike.specs.Sought.{instruction_names, instruction_starts, instruction_freezes, given_by, code_outline}

abbrev line_of : Statement → List Command
line_of s = own_line (out-Statement s)

both : {X : Type 0} (a b c d : List X) → a ≡ c → b ≡ d → a ++ b ≡ c ++ d
both a b c d e h = λ i. e i ++ h i

-- what f gives of instructions, and g of lines, where they give the same of each line's instruction, and f nothing of jumps and returns
module _ (f : Instruction → Option ℕ) (g : Command → Option ℕ) (names : Names) (alike : (c : Command) → f (command_code names c) ≡ g c)
    (skip : (o : Operand) (n : ℕ) → f (SkipIfZero o n) ≡ None) (back : (o : Operand) (n : ℕ) → f (BackUnlessZero o n) ≡ None) (go : (n : ℕ) → f (GoOn n) ≡ None) (end : f Return ≡ None) where
  abbrev given : List Statement → List ℕ
  given ss = filter_map g (flat_map line_of ss)

  given-append : (xs ys : List Statement) → given (xs ++ ys) ≡ given xs ++ given ys
  given-append xs ys = ap (filter_map g) (flat_map-append line_of xs ys) ∙ filter_map-append g (flat_map line_of xs) (flat_map line_of ys)

  -- a statement with a block has no line of its own
  behind : (s : Statement) (ss : List Statement) → line_of s ≡ [] → given (s ∷ ss) ≡ given ss
  behind s ss e = ap (λ l. filter_map g (l ++ flat_map line_of ss)) e

  without : (i : Instruction) (is : List Instruction) → f i ≡ None → filter_map f (i ∷ is) ≡ filter_map f is
  without i is e = ap (λ o. cons_option o (filter_map f is)) e

  mutual
    statement_alike : (s : Statement) → filter_map f (statement_code names s) ≡ given (nested s)
    statement_alike (Do c) = ap (λ o. cons_option o []) (alike c) ∙ ap (λ l. filter_map g (own_line l ++ [])) (sym (outs-Do c))
    statement_alike (If' t s a) = without _ (row_code names a) (skip _ _) ∙ row_alike a ∙ sym (behind _ _ (ap own_line (outs-If' t s a)))
    statement_alike (IfElse' t s a r b) =
        without _ _ (skip _ _) ∙ filter_map-append f (row_code names a) _ ∙ both _ _ _ _ (row_alike a) (without _ (row_code names b) (go _) ∙ row_alike b)
        ∙ sym (given-append (row_nested a) (row_nested b)) ∙ sym (behind _ _ (ap own_line (outs-IfElse' t s a r b)))
    statement_alike (While' t s a) =
        without _ _ (skip _ _) ∙ filter_map-append f (row_code names a) _ ∙ both _ _ _ _ (row_alike a) (without _ [] (back _ _))
        ∙ append-nil (given (row_nested a)) ∙ sym (behind _ _ (ap own_line (outs-While' t s a)))

    row_alike : {m : _} (r : Row_of-Statement m) → filter_map f (row_code names r) ≡ given (row_nested r)
    row_alike end_of-Statement = refl
    row_alike (more_of-Statement s rest) =
        filter_map-append f (statement_code names s) (row_code names rest) ∙ both _ _ _ _ (statement_alike s) (row_alike rest) ∙ sym (given-append (nested s) (row_nested rest))

  list_alike : (ss : List Statement) → filter_map f (list_code names ss) ≡ given (all_nested ss)
  list_alike [] = refl
  list_alike (s ∷ ss) = filter_map-append f (statement_code names s) (list_code names ss) ∙ both _ _ _ _ (statement_alike s) (list_alike ss) ∙ sym (given-append (nested s) (all_nested ss))

  routine_alike : (p : Procedure) → filter_map f (routine_of names p).instructions ≡ filter_map g (procedure_lines p)
  routine_alike p = filter_map-append f (list_code names (statements p.body)) (Return ∷ []) ∙ both _ _ _ _ (list_alike (statements p.body)) (without Return [] end) ∙ append-nil _

module _ (script : Script) (c : ScriptCode) (is : IsScriptCodeOf script c) where
  -- the same of each procedure's number
  each_alike : (f : Instruction → Option ℕ) (g : Command → Option ℕ) → ((p : Procedure) → filter_map f (routine_of (names_of script p) p).instructions ≡ filter_map g (procedure_lines p))
      → (k : ℕ) → filter_map g (lines script k) ≡ given_by f c.flat.routines k
  each_alike f g alike k = by (slice_get script.procedures k) ∙ sym (ap (λ o. filter_map f (instructions_in o)) (ap (λ rs. slice_get rs k) is.routines ∙ slice_get-map (λ p. routine_of (names_of script p) p) script.procedures k))
    where
      by : (o : Option Procedure) → filter_map g (option_map_or procedure_lines o []) ≡ filter_map f (instructions_in (option_map (λ p. routine_of (names_of script p) p) o))
      by None = refl
      by (Some p) = sym (alike p)

  names_alike : (p : Procedure) (l : Command) → instruction_names (command_code (names_of script p) l) ≡ line_names script l
  names_alike p (line.Let x v) = refl
  names_alike p l = refl

  starts_alike : (p : Procedure) (l : Command) → instruction_starts (command_code (names_of script p) l) ≡ line_starts script l
  starts_alike p (line.Let x v) = refl
  starts_alike p l = refl

  freezes_alike : (p : Procedure) (l : Command) → instruction_freezes (command_code (names_of script p) l) ≡ line_freezes script l
  freezes_alike p (line.Let x v) = refl
  freezes_alike p l = refl

  pub same_outline : outline script ≡ code_outline c.flat
  same_outline =
      let names = fun_ext (each_alike instruction_names (line_names script) (λ p. routine_alike instruction_names (line_names script) (names_of script p) (names_alike p) (λ o n. refl) (λ o n. refl) (λ n. refl) refl p)) in
      let starts = fun_ext (each_alike instruction_starts (line_starts script) (λ p. routine_alike instruction_starts (line_starts script) (names_of script p) (starts_alike p) (λ o n. refl) (λ o n. refl) (λ n. refl) refl p)) in
      let freezes = fun_ext (each_alike instruction_freezes (line_freezes script) (λ p. routine_alike instruction_freezes (line_freezes script) (names_of script p) (freezes_alike p) (λ o n. refl) (λ o n. refl) (λ n. refl) refl p)) in
      λ i. record { main = (sym is.main) i; names = names i; starts = starts i; freezes = freezes i }
