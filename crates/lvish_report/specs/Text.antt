-- The text of a report.
use Rattle.std.specs.Prelude.{ℕ, ℤ, Bool, ◌||◌, codes, List, [], ◌∷◌, ◌++◌, Option, Some, None, slice_get, unwrap_or, option_map, if◌then◌else◌, flat_map, decimal}
use Rattle.lvish_names.specs.Names.{Name}
use Rattle.lvish_names.specs.NameText.{name_text}
use Rattle.lvish_calculus.specs.declared.request.ErrorKind.{ErrorKind}
use Rattle.lvish_calculus.specs.declared.request.ErrorKind.TheVariants.{Conflict, Frozen, Late, Overflow, Zero, Range, Deep}
use Rattle.lvish_compound.specs.declared.any.Any.{Any}
use Rattle.lvish_syntax.specs.Words.{Word}
use Rattle.lvish_syntax.specs.declared.declaration.Declaration.{Declaration}
use Rattle.lvish_syntax.specs.declared.declaration.Declaration.TheVariants.{Variable, Pool}
use Rattle.lvish_syntax.specs.declared.kind.VariableKind.{VariableKind}
use Rattle.lvish_report.specs.declared.report.FinalState.{FinalState}
use Rattle.lvish_report.specs.declared.report.Report.{Report}
use Rattle.lvish_trace.specs.declared.outcome.Outcome.{Outcome}
use Rattle.lvish_trace.specs.declared.outcome.Outcome.TheVariants.{Ended, Error as ErrorOutcome, Budget}
use Rattle.lvish_report.specs.StateText.{state_text}

-- the variable that a line declares, if it declares one
abbrev pub declared_variable : Declaration → List (Word × VariableKind)
declared_variable (Variable n k) = (n, k) ∷ []
declared_variable (Pool p v) = []

-- the variables with their kinds, in order of declaration
abbrev pub variables_of : List Declaration → List (Word × VariableKind)
variables_of ds = flat_map declared_variable ds

-- a variable's line
abbrev pub variable_line : Word → VariableKind → Any → List ℕ
variable_line name kind state = name ++ (codes " = " ++ (state_text kind state ++ 10 ∷ []))

-- the line of a variable that is frozen, or of any
abbrev pub shown_line : Bool → Word × VariableKind → FinalState Any → List ℕ
shown_line all v s = if all || s.frozen then variable_line v.0 v.1 s.content else []

-- the lines of variables, in order of declaration
abbrev pub variable_lines : Bool → List (Word × VariableKind) → List (FinalState Any) → List ℕ
variable_lines all [] ss = []
variable_lines all (v ∷ vs) [] = []
variable_lines all (v ∷ vs) (s ∷ ss) = shown_line all v s ++ variable_lines all vs ss

-- the lines of the numbers of steps and of blocked tasks
abbrev pub count_lines : ℕ → ℕ → List ℕ
count_lines steps blocked = codes "steps " ++ (decimal steps ++ (10 ∷ (codes "blocked " ++ (decimal blocked ++ 10 ∷ []))))

-- the name of an error
abbrev pub kind_name : ErrorKind → List ℕ
kind_name Conflict = codes "Conflict"
kind_name Frozen = codes "Frozen"
kind_name Late = codes "Late"
kind_name Overflow = codes "Overflow"
kind_name Zero = codes "Zero"
kind_name Range = codes "Range"
kind_name Deep = codes "Deep"

-- the variable of an error, - where it has none
abbrev pub shown_variable : List (Word × VariableKind) → Option ℕ → List ℕ
shown_variable variables None = codes "-"
shown_variable variables (Some v) = unwrap_or (option_map (λ x. x.0) (slice_get variables v)) (codes "-")

-- the line of a run that was stopped after this many steps, its budget
abbrev pub budget_line : ℕ → List ℕ
budget_line steps = codes "budget " ++ (decimal steps ++ 10 ∷ [])

module _ {E : Type 0} (key number : E → ℤ) (variables : List (Word × VariableKind)) where
  -- the line of an error: its kind, its variable and its task
  abbrev pub error_line : ErrorKind → Option ℕ → Name E → List ℕ
  error_line kind v t = codes "error " ++ (kind_name kind ++ (codes " " ++ (shown_variable variables v ++ (codes " " ++ (name_text key number t ++ 10 ∷ [])))))

  abbrev pub outcome_text : Report Any E → Bool → Outcome E → List ℕ
  outcome_text r all Ended = variable_lines all variables r.states ++ count_lines r.steps r.blocked
  outcome_text r all (ErrorOutcome kind v t) = error_line kind v t
  outcome_text r all Budget = budget_line r.steps

  -- the whole text of a report, over the variables of a script
  abbrev pub report_text : Report Any E → Bool → List ℕ
  report_text r all = outcome_text r all r.outcome
