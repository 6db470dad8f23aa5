-- What is answered of how an event came about.
use Rattle.std.specs.Prelude.{◌≡◌, ◌⊎◌, ℕ, ℤ, pos, Bool, true, false, List, [], ◌∷◌, map, Some, slice_get, String, string_bytes}
use Rattle.std.specs.Global.{Global}
use Rattle.lvish_compound.specs.declared.any.Any.{Any}
use Rattle.lvish_compound.specs.declared.event.Event.{Event}
use Rattle.lvish_syntax.specs.declared.kind.VariableKind.{VariableKind}
use Rattle.lvish_syntax.specs.declared.kind.VariableKind.TheVariants.{Simple, Map, Pair, Tally}
use Rattle.lvish_syntax.specs.declared.script.Script.{Script}
use Rattle.lvish_report.specs.Text.{variables_of}
use Rattle.lvish_report.specs.declared.report.Report.{Report}
use Rattle.lvish_trace.specs.Traced.{labels_of}
use Rattle.lvish_run.specs.Scripts.{script_machine}
use Rattle.lvish_why.specs.Why.{IsThere}
use Rattle.lvish_why.specs.declared.question.Question.{Question}
use Rattle.lvish_cli.specs.declared.order.WhyOrder.{WhyOrder}
use Rattle.lvish_cli.specs.declared.status.Status.{Status}
use Rattle.lvish_cli.specs.declared.status.Status.TheVariants.{Done, Absent, Usage}

-- the events of a variable of this kind have keys, which words name: of a pair the side
abbrev pub has_keys : VariableKind → Bool
has_keys (Simple k) = false
has_keys Map = true
has_keys (Pair a b) = true
has_keys Tally = true

-- the numbers are those of the event, and the rest
abbrev pub AreNumbersOf : (keys : Bool) → Question → List ℤ → List ℤ → Type 0
AreNumbersOf false event rest numbers = (event.key ≡ pos 0) × (numbers ≡ event.number ∷ rest)
AreNumbersOf true event rest numbers = numbers ≡ event.key ∷ event.number ∷ rest

-- the words name this event of a variable of the script, and behind it the rest
pub record IsNamed (script : Script) (asked : WhyOrder) (event : Question) (rest : List ℤ) : Type 0 where
  pub kind : VariableKind
  pub variable : slice_get (variables_of script.declarations) event.variable ≡ Some (string_bytes asked.variable, kind)
  pub numbers : AreNumbersOf (has_keys kind) event rest asked.numbers

-- the status tells whether the event is there
abbrev pub there_status : Bool → Status
there_status true = Done
there_status false = Absent

-- the event that the words name was sought in the run of the picks behind it; or they name none, or no picks, and nothing is printed
abbrev pub IsWhyAnswer : (Script → List ℕ → ℕ → Report Any Event → Type 0) → Script → WhyOrder → Status → List ℕ → Type 0
IsWhyAnswer is_picked_run script asked status text =
    ((event : Question) × (picks : List ℕ) × (report : Report Any Event) × IsNamed script asked event (map pos picks) × is_picked_run script picks asked.budget report
    × ((there : Bool) × IsThere (script_machine script) script event (labels_of report.trace) there × (status ≡ there_status there)))
    ⊎ ((message : String Global) × (status ≡ Usage message) × (text ≡ []))
