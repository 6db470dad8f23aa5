-- Code has an instruction that freezes where its script has the line, and asks to freeze by no other.
use Rattle.std.proofs.Common.{◌≡◌, ◌≢◌, ℕ, ◌∙◌, Bool, false, List, [], ◌∷◌, refl, sym, ap, subst, map}
use Rattle.std.specs.Prelude.{◌||◌}
use Rattle.std.specs.List.{list_any}
use Rattle.std.proofs.Math.Bool.{or-false}
use Rattle.std.proofs.lemmas.Bool.{false≢true}
use Rattle.std.proofs.lemmas.List.Folds.{list_any-append}
use Rattle.lvish_task.specs.Vocabulary.{Request, Command, Statement, out-Statement, Procedure, Script, Return}
use Rattle.lvish_calculus.specs.declared.request.Request.TheVariants as ask
use Rattle.lvish_calculus.specs.Machine.{Machine}
use Rattle.lvish_calculus.specs.Calculus.{Configuration, Running, Error, Task, Absent, Live, Ended}
use Rattle.lvish_calculus.specs.SameRuns.{SameTask, SameConfiguration, HaveSameRuns, without_child}
use Rattle.lvish_syntax.specs.Nested.{statements, nested, row_nested, all_nested}
use Rattle.lvish_syntax.specs.declared.command.Command.TheVariants as line
use Rattle.lvish_syntax.specs.declared.statement.Statement.{Do, If', IfElse', While', Row_of-Statement, end_of-Statement, more_of-Statement}
use Rattle.lvish_syntax.specs.declared.statement.Statement.TheViews.{outs-Do, outs-If', outs-IfElse', outs-While'}
use Rattle.lvish_code.specs.Compile.{Names, names_of, command_code, statement_code, row_code, list_code, routine_of}
use Rattle.lvish_task.specs.declared.script_code.ScriptCode.{ScriptCode}
use Rattle.lvish_task.specs.declared.stack.Stack.{Stack}
use Rattle.lvish_task.specs.CodeOf.{IsScriptCodeOf}
use Rattle.lvish_task.specs.Run.{functions}
use Rattle.lvish_task.specs.Freezing.{is_freeze_command, is_freeze_line, have_freeze, has_freeze, is_freeze, routine_freezes, code_freezes}
use Rattle.lvish_calculus.specs.Laws.{AsksNoFreeze}
use Rattle.lvish_calculus.specs.Agreement.{NeverAsksFreeze}
use Rattle.lvish_task.specs.laws.Fits.{RequestFits, request_fits}

-- ---- lines and instructions

abbrev is_line : Statement → Bool
is_line s = is_freeze_line (out-Statement s)

-- the one and then the other
or_alike : (a b c d : Bool) → a ≡ c → b ≡ d → (a || b) ≡ (c || d)
or_alike a b c d e h = cc

module _ (names : Names) where
  command_alike : (c : Command) → is_freeze (command_code names c) ≡ is_freeze_command c
  command_alike (line.Let x v) = refl
  command_alike c = refl

  mutual
    statement_alike : (s : Statement) → list_any is_freeze (statement_code names s) ≡ list_any is_line (nested s)
    statement_alike (Do c) = ap (λ b. b || false) (command_alike c ∙ ap is_freeze_line (sym (outs-Do c)))
    statement_alike (If' t s a) = or_alike _ _ _ _ (ap is_freeze_line (sym (outs-If' t s a))) (row_alike a)
    statement_alike (IfElse' t s a r b) =
        or_alike _ _ _ _ (ap is_freeze_line (sym (outs-IfElse' t s a r b)))
        (list_any-append is_freeze (row_code names a) _ ∙ or_alike _ _ _ _ (row_alike a) (row_alike b) ∙ sym (list_any-append is_line (row_nested a) (row_nested b)))
    statement_alike (While' t s a) =
        or_alike _ _ _ _ (ap is_freeze_line (sym (outs-While' t s a)))
        (list_any-append is_freeze (row_code names a) _ ∙ or-false _ ∙ row_alike a)

    row_alike : {m : _} (r : Row_of-Statement m) → list_any is_freeze (row_code names r) ≡ list_any is_line (row_nested r)
    row_alike end_of-Statement = refl
    row_alike (more_of-Statement s rest) =
        list_any-append is_freeze (statement_code names s) (row_code names rest) ∙ or_alike _ _ _ _ (statement_alike s) (row_alike rest) ∙ sym (list_any-append is_line (nested s) (row_nested rest))

  list_alike : (ss : List Statement) → list_any is_freeze (list_code names ss) ≡ have_freeze ss
  list_alike [] = refl
  list_alike (s ∷ ss) =
      list_any-append is_freeze (statement_code names s) (list_code names ss) ∙ or_alike _ _ _ _ (statement_alike s) (list_alike ss) ∙ sym (list_any-append is_line (nested s) (all_nested ss))

  routine_alike : (p : Procedure) → list_any is_freeze (routine_of names p).instructions ≡ have_freeze (statements p.body)
  routine_alike p = list_any-append is_freeze (list_code names (statements p.body)) (Return ∷ []) ∙ or-false _ ∙ list_alike (statements p.body)

-- the code has such an instruction where the script has the line
pub code_alike : (script : Script) (c : ScriptCode) → IsScriptCodeOf script c → code_freezes c.flat ≡ has_freeze script
code_alike script c is = ap (list_any routine_freezes) is.routines ∙ each script.procedures
  where
    each : (ps : List Procedure) → list_any routine_freezes (map (λ p. routine_of (names_of script p) p) ps) ≡ list_any (λ (p : Procedure). have_freeze (statements p.body)) ps
    each [] = refl
    each (p ∷ ps) = or_alike _ _ _ _ (routine_alike (names_of script p) p) (each ps)

-- code without such an instruction asks for no freeze, in whatever local state
pub asks_none : (c : ScriptCode) → code_freezes c.flat ≡ false → (l : Stack) (v : ℕ) (pools : List ℕ) → (functions c).request l ≢ ask.Freeze v pools
asks_none c none l v pools e = false≢true (sym none ∙ (subst (RequestFits c.flat) e (request_fits c.flat l)).2)

-- ---- the statements' runs

module _ {S E R A L K : Type 0} (M : Machine S E R A L) (N : Machine S E R A K) (H : HaveSameRuns M N) (none : AsksNoFreeze M) where
  -- what the one asks in no local state, no task of the other asks
  pub never_asks : NeverAsksFreeze N
  never_asks ls d reached t k forks adds puts is v pools asked = by (H.back ls (Running d) reached).0 (H.back ls (Running d) reached).2
    where
      at_task : (u : Task L) (w : Task K) → SameTask N M w u → w ≡ Live k forks adds puts → ⊥
      at_task (Live l f a p) (Live m g b q) same e =
          let here : m ≡ k = cc in
          let asks : without_child (M.request l) ≡ ask.Freeze v pools = sym same.0 ∙ ap without_child (ap N.request here ∙ asked) in
          frozen (M.request l) (none l) asks
        where
          frozen : (r : Request S R L) → ((w : ℕ) (ps : List ℕ) → r ≢ ask.Freeze w ps) → without_child r ≡ ask.Freeze v pools → ⊥
          frozen (ask.Freeze w ps) never e = never w ps refl
          frozen r never e = let n : ⊥ = cc in n
      at_task u Absent same e = let n : ⊥ = cc in n
      at_task u Ended same e = let n : ⊥ = cc in n
      at_task u (Live m g b q) same e = absurd same

      by : (C : Configuration S E L) → SameConfiguration N M (Running d) C → ⊥
      by (Running c) same = at_task (c.tasks t) (d.tasks t) (same.tasks t) is
      by (Error kind w u) same = absurd same
