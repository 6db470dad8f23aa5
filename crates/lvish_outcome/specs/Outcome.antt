-- What is told of what a run came to.
use Rattle.std.specs.Prelude.{◌≡◌, ◌⊎◌, ◌==◌, ◌++◌, ◌∷◌, [], ℕ, ℤ, List, codes, length, map, if◌then◌else◌}
use Rattle.std.specs.Fmt.{decimal}
use Rattle.lvish_compound.specs.declared.any.Any.{Any}
use Rattle.lvish_compound.specs.declared.any_read.AnyRead.{AnyRead}
use Rattle.lvish_compound.specs.declared.event.Event.{Event}
use Rattle.lvish_names.specs.Names.{Name}
use Rattle.lvish_calculus.specs.declared.request.ErrorKind.{ErrorKind}
use Rattle.lvish_calculus.specs.Machine.{Machine}
use Rattle.lvish_calculus.specs.Handing.{IsAmong}
use Rattle.lvish_syntax.specs.Words.{Word}
use Rattle.lvish_syntax.specs.declared.kind.VariableKind.{VariableKind}
use Rattle.lvish_syntax.specs.declared.script.Script.{Script}
use Rattle.lvish_checks.specs.Text.{lines_of}
use Rattle.lvish_trace.specs.declared.outcome.Outcome.{Outcome}
use Rattle.lvish_trace.specs.declared.outcome.Outcome.TheVariants.{Ended, Error as ErrorOutcome, Budget}
use Rattle.lvish_trace.specs.Traced.{labels_of}
use Rattle.lvish_report.specs.declared.report.Report.{Report}
use Rattle.lvish_report.specs.Text.{variables_of}
use Rattle.lvish_task.specs.declared.script_code.ScriptCode.{ScriptCode}
use Rattle.lvish_task.specs.CodeOf.{IsScriptCodeOf}
use Rattle.lvish_retrace.specs.declared.bringer.Bringer.{Bringer}
use Rattle.lvish_retrace.specs.Brought.{IsBringer}
use Rattle.lvish_retrace.specs.Walk.{IsCoreRun}
use Rattle.lvish_outcome.specs.declared.told.ErrorTold.{ErrorTold}
use Rattle.lvish_outcome.specs.declared.told.BlockedTold.{BlockedTold}
use Rattle.lvish_outcome.specs.declared.told.LineCount.{LineCount}
use Rattle.lvish_outcome.specs.Trouble.{kind_of}
use Rattle.lvish_outcome.specs.Rests.{RestsOn}
use Rattle.lvish_outcome.specs.SoFar.{states_text}
use Rattle.lvish_outcome.specs.Count.{AreAllCounts, AreBusiest}
use Rattle.lvish_outcome.specs.Telling.{error_text, blocked_texts, steps_texts}
use Rattle.lvish_outcome.specs.Again.{IsAgainAfter}

-- the run has ended, and no task is blocked
abbrev pub IsDoneBy : Outcome Event → ℕ → Type 0
IsDoneBy Ended n = n ≡ 0
IsDoneBy o n = ⊥

abbrev pub IsDone : Report Any Event → Type 0
IsDone r = IsDoneBy r.outcome r.blocked

-- an error of this kind, which this task met
abbrev pub IsOfError : ErrorKind → Name Event → ErrorTold → Type 0
IsOfError kind t e = (kind_of e.trouble ≡ kind) × (e.standing.task.now ≡ t)

-- the line of blocked tasks, and how many they are
abbrev pub count_of : BlockedTold → LineCount
count_of b = record { line = b.standing.line; count = b.count }

-- that a budget is used up
abbrev pub unended : ℕ → List ℕ
unended n = if n == 1 then codes "task hasn't ended" else codes "tasks haven't ended"

abbrev pub left_text : ℕ → List ℕ
left_text n = decimal n ++ (codes " " ++ (unended n ++ 10 ∷ []))

abbrev pub budget_head : List ℕ → ℕ → ℕ → List ℕ
budget_head file steps n = file ++ (codes ": the budget of " ++ (decimal steps ++ (codes " steps is used up, and " ++ left_text n)))

module _ (file : List ℕ) (lines : List (List ℕ)) where
  -- the text of an error of this kind, which this task met; one of these puts brought what is there
  pub record IsErrorText (bs : List (Bringer Event)) (kind : ErrorKind) (t : Name Event) (out : List ℕ) : Type 0 where
    pub told : ErrorTold
    pub of : IsOfError kind t told
    pub rests : RestsOn bs told.trouble told.earlier
    pub is : out ≡ error_text file lines told

  -- of the tasks that are blocked at these lines, so many at each
  pub record AreCountedTexts (counts : List LineCount) (out : List ℕ) : Type 0 where
    pub told : List BlockedTold
    pub rows : map count_of told ≡ counts
    pub is : out ≡ blocked_texts file lines told

  -- by line so many tasks
  pub record IsBlockedText (n : ℕ) (out : List ℕ) : Type 0 where
    pub at : List ℕ
    pub counts : List LineCount
    pub all : length at ≡ n
    pub counted : AreAllCounts at counts
    pub text : AreCountedTexts counts out

  -- the lines where most steps were made, and the states so far
  abbrev pub budget_text : List (Word × VariableKind) → List LineCount → Report Any Event → List ℕ
  budget_text variables most r = (budget_head file r.steps r.blocked ++ steps_texts file lines most) ++ states_text variables r

  -- the same of the lines where most of so many steps were made
  pub record IsBudgetText (variables : List (Word × VariableKind)) (n : ℕ) (r : Report Any Event) (out : List ℕ) : Type 0 where
    pub at : List ℕ
    pub counts : List LineCount
    pub most : List LineCount
    pub all : length at ≡ n
    pub counted : AreAllCounts at counts
    pub busiest : AreBusiest counts most
    pub is : out ≡ budget_text variables most r

  -- by what the run came to: its text, or nothing
  abbrev pub IsPart : List (Word × VariableKind) → List (Bringer Event) → ℕ → Report Any Event → Outcome Event → List ℕ → Type 0
  IsPart variables bs n r Ended out = (out ≡ []) ⊎ IsBlockedText r.blocked out
  IsPart variables bs n r (ErrorOutcome kind v t) out = (out ≡ []) ⊎ IsErrorText bs kind t out
  IsPart variables bs n r Budget out = (out ≡ []) ⊎ IsBudgetText variables n r out

module _ {L : Type 0} (machine : ScriptCode → Machine Any Event AnyRead ℤ L) where
  -- what is told of the run; the puts brought events in it
  pub record IsTold (file text : List ℕ) (script : Script) (r : Report Any Event) (code : ScriptCode) (out : List ℕ) : Type 0 where
    pub puts : List (Bringer Event)
    pub brought : (b : Bringer Event) → IsAmong b puts → IsBringer (machine code) (labels_of r.trace) b
    pub part : IsPart file (lines_of text) (variables_of script.declarations) puts (length (labels_of r.trace)) r r.outcome out

  -- what is told of the run, or nothing, where the trace is no run of the script
  pub record IsOutcomePart (file text : List ℕ) (script : Script) (r : Report Any Event) (out : List ℕ) : Type 0 where
    pub code : ScriptCode
    pub of : IsScriptCodeOf script code
    pub told : ((IsCoreRun (machine code) (labels_of r.trace) → ⊥) × (out ≡ [])) ⊎ IsTold file text script r code out

  -- what is told of the run, and the command that makes it again
  pub record IsExplained (file text : List ℕ) (script : Script) (r : Report Any Event) (out : List ℕ) : Type 0 where
    pub part : List ℕ
    pub told : IsOutcomePart file text script r part
    pub again : IsAgainAfter file script r part out
