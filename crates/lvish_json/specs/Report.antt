-- What is told of a report.
use Rattle.std.specs.Prelude.{ℕ, ℤ, codes, List, [], ◌∷◌, Option, Some, None, slice_get}
use Rattle.json.specs.Json.{Json, null, boolean, string, array}
use Rattle.lvish_names.specs.Names.{Name}
use Rattle.lvish_names.specs.NameText.{name_text}
use Rattle.lvish_calculus.specs.declared.request.ErrorKind.{ErrorKind}
use Rattle.lvish_compound.specs.declared.any.Any.{Any}
use Rattle.lvish_syntax.specs.Words.{Word}
use Rattle.lvish_syntax.specs.declared.kind.VariableKind.{VariableKind}
use Rattle.lvish_trace.specs.declared.outcome.Outcome.{Outcome}
use Rattle.lvish_trace.specs.declared.outcome.Outcome.TheVariants.{Ended, Error as ErrorOutcome, Budget}
use Rattle.lvish_report.specs.declared.report.FinalState.{FinalState}
use Rattle.lvish_report.specs.declared.report.Report.{Report}
use Rattle.lvish_report.specs.Text.{kind_name}
use Rattle.lvish_json.specs.Shape.{items_of, each, fields, if_any, count}
use Rattle.lvish_json.specs.Content.{kind_text, content}

-- how a run came to its last configuration
abbrev pub outcome_name : {E : Type 0} → Outcome E → List ℕ
outcome_name Ended = codes "ended"
outcome_name (ErrorOutcome kind v t) = codes "error"
outcome_name Budget = codes "budget"

-- a variable's state
abbrev pub state_value : Word × VariableKind → FinalState Any → Json
state_value v s = fields (
    (codes "name", string v.0)
    ∷ (codes "kind", string (kind_text v.1))
    ∷ (codes "frozen", boolean s.frozen)
    ∷ (codes "content", content v.1 s.content)
    ∷ [])

-- the states of variables, in the order of their declarations
abbrev pub state_values : List (Word × VariableKind) → List (FinalState Any) → List Json
state_values [] ss = []
state_values (v ∷ vs) [] = []
state_values (v ∷ vs) (s ∷ ss) = state_value v s ∷ state_values vs ss

-- the picks, where they are asked for
abbrev pub picks_field : Option (List ℕ) → List (List ℕ × Json)
picks_field None = []
picks_field (Some picks) = (codes "picks", each count picks) ∷ []

module _ (variables : List (Word × VariableKind)) where
  -- the name of the variable with this number
  abbrev pub name_value : ℕ → Json
  name_value v = if_any (λ x. string x.0) (slice_get variables v)

  module _ {E : Type 0} (key number : E → ℤ) where
    -- an error: its kind, its variable if it has one, and its task
    abbrev pub error_value : ErrorKind → Option ℕ → Name E → Json
    error_value kind v t = fields (
        (codes "kind", string (kind_name kind))
        ∷ (codes "variable", if_any name_value v)
        ∷ (codes "task", string (name_text key number t))
        ∷ [])

    -- the error of a run, if it came to one
    abbrev pub outcome_error : Outcome E → Json
    outcome_error Ended = null
    outcome_error (ErrorOutcome kind v t) = error_value kind v t
    outcome_error Budget = null

    -- all of a report, and the picks where they are asked for
    abbrev pub report_value : Report Any E → Option (List ℕ) → Json
    report_value r picks = fields (
        (codes "outcome", string (outcome_name r.outcome))
        ∷ (codes "error", outcome_error r.outcome)
        ∷ (codes "steps", count r.steps)
        ∷ (codes "blocked", count r.blocked)
        ∷ (codes "by_worker", each count r.by_worker)
        ∷ (codes "freezes", each name_value r.freezes)
        ∷ (codes "states", array (items_of (state_values variables r.states)))
        ∷ picks_field picks)
