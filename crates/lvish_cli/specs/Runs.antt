-- What is answered of a run.
use Rattle.std.specs.Prelude.{◌≡◌, ◌==◌, ℕ, ℤ, Bool, true, false, List, [], ◌++◌, Option, Some, None, if◌then◌else◌}
use Rattle.lvish_calculus.specs.Calculus.{Running, start}
use Rattle.lvish_compound.specs.declared.any.Any.{Any}
use Rattle.lvish_compound.specs.declared.event.Event.{Event}
use Rattle.lvish_compound.specs.contracts.event.EventOrd.TheImpl.{ghosts as event_order}
use Rattle.lvish_syntax.specs.declared.script.Script.{Script}
use Rattle.lvish_trace.specs.declared.outcome.Outcome.{Outcome}
use Rattle.lvish_trace.specs.declared.outcome.Outcome.TheVariants as outcome
use Rattle.lvish_trace.specs.Traced.{labels_of}
use Rattle.lvish_report.specs.declared.report.Report.{Report}
use Rattle.lvish_report.specs.Text.{variables_of, report_text}
use Rattle.lvish_report.specs.TraceText.{trace_lines}
use Rattle.lvish_run.specs.Picked.{IsPicked}
use Rattle.lvish_run.specs.Scripts.{script_machine}
use Rattle.lvish_json.specs.Report.{report_value}
use Rattle.lvish_json.specs.Shape.{IsLineOf}
use Rattle.lvish_cli.specs.declared.order.RunOrder.{RunOrder}
use Rattle.lvish_cli.specs.declared.order.PickOrder.{PickOrder}
use Rattle.lvish_cli.specs.declared.status.Status.{Status}
use Rattle.lvish_cli.specs.declared.status.Status.TheVariants.{Done, Blocked, Error, Budget}
use Rattle.lvish_cli.specs.Lines.{picks_text}

-- the key and the number by which an event is printed
abbrev pub event_key : Event → ℤ
event_key e = e.key

abbrev pub event_number : Event → ℤ
event_number e = e.number

-- the text of a report's trace
abbrev pub trace_text : Report Any Event → List ℕ
trace_text report = trace_lines event_key event_number (labels_of report.trace)

-- the status that goes with an outcome, where this many tasks are blocked
abbrev pub outcome_status : ℕ → Outcome Event → Status
outcome_status blocked outcome.Ended = if blocked == 0 then Done else Blocked
outcome_status blocked (outcome.Error kind v t) = Error
outcome_status blocked outcome.Budget = Budget

-- the text of a report, and before it that of its trace where it is asked for
abbrev pub traced_text : Script → Report Any Event → (all trace : Bool) → List ℕ
traced_text script report all true = trace_text report ++ report_text event_key event_number (variables_of script.declarations) report all
traced_text script report all false = report_text event_key event_number (variables_of script.declarations) report all

-- the text, and behind it the line of these picks where there are any
abbrev pub picked_text : List ℕ → Option (List ℕ) → List ℕ
picked_text text None = text
picked_text text (Some picks) = text ++ picks_text picks

-- the text of a report with trace and picks as they are asked for, or where that is asked for, as JSON
abbrev pub IsReportText : (json : Bool) → Script → Report Any Event → (all trace : Bool) → Option (List ℕ) → List ℕ → Type 0
IsReportText false script report all trace picks text = text ≡ picked_text (traced_text script report all trace) picks
IsReportText true script report all trace picks text = IsLineOf (report_value (variables_of script.declarations) event_key event_number report picks) text

-- where they are asked for, picks that make the report's run again
abbrev pub ArePicksKnown : (asked : Bool) → Script → Report Any Event → Option (List ℕ) → Type 0
ArePicksKnown false script report known = known ≡ None
ArePicksKnown true script report None = ⊥
ArePicksKnown true script report (Some picks) = IsPicked event_order.cmp (script_machine script) picks [] (Running (start (script_machine script))) (labels_of report.trace)

-- the answer to a script that workers run
abbrev pub IsRunAnswer : (Script → ℕ → ℕ → Report Any Event → Type 0) → Script → RunOrder → Status → List ℕ → Type 0
IsRunAnswer is_run script asked status text =
    (report : Report Any Event) × is_run script asked.workers asked.budget report × (status ≡ outcome_status report.blocked report.outcome)
    × ((picks : Option (List ℕ)) × ArePicksKnown asked.picks script report picks × IsReportText asked.json script report asked.all asked.trace picks text)

-- the answer to a script that is run by picks: the trace comes before the text of the report
abbrev pub IsPickAnswer : (Script → List ℕ → ℕ → Report Any Event → Type 0) → Script → PickOrder → Status → List ℕ → Type 0
IsPickAnswer is_picked_run script asked status text =
    (report : Report Any Event) × is_picked_run script asked.picks asked.budget report × (status ≡ outcome_status report.blocked report.outcome) × IsReportText asked.json script report asked.all true None text
