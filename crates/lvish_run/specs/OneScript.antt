-- Reports of one script.
use Rattle.std.specs.Prelude.{◌≡◌, ◌⊎◌, ℕ, Bool, List, length}
use Rattle.lvish_compound.specs.declared.any.Any.{Any}
use Rattle.lvish_compound.specs.declared.event.Event.{Event}
use Rattle.lvish_compound.specs.contracts.event.EventOrd.TheImpl.{ghosts as event_order}
use Rattle.lvish_calculus.specs.Live.{HasLive}
use Rattle.lvish_syntax.specs.declared.script.Script.{Script}
use Rattle.lvish_report.specs.declared.report.Report.{Report}
use Rattle.lvish_report.specs.Text.{variables_of, report_text}
use Rattle.lvish_trace.specs.declared.outcome.Outcome.TheVariants.{Ended}
use Rattle.lvish_run.specs.Honest.{AreFinalStates}
use Rattle.lvish_run.specs.Scripts.{script_machine, IsRunBy, IsPickedRun}
use Rattle.lvish_run.specs.Ends.{EndsAfter}
use Rattle.lvish_run.specs.SameReports.{TellTheSame}

-- a report of a run of the script within the budget, by workers or by picks
abbrev pub IsReportOf : Script → ℕ → Report Any Event → Type 0
IsReportOf script budget r = ((workers : ℕ) × IsRunBy script workers budget r) ⊎ ((picks : List ℕ) × IsPickedRun script picks budget r)

-- the text of a script's report
abbrev pub text_of : Script → Report Any Event → Bool → List ℕ
text_of script r all = report_text (λ (e : Event). e.key) (λ (e : Event). e.number) (variables_of script.declarations) r all

-- any two reports of ends of one script, for which P holds, tell the same, and so have the same text
abbrev pub ReportsAgreeIf : (Script → Report Any Event → Report Any Event → Type 0) → Type 0
ReportsAgreeIf P = (script : Script) (b c : ℕ) (r q : Report Any Event) → IsReportOf script b r → IsReportOf script c q
    → r.outcome ≡ Ended → q.outcome ≡ Ended → P script r q → TellTheSame r q × ((all : Bool) → text_of script r all ≡ text_of script q all)

-- a report of an end after n steps, with the states and the blocked tasks of the run without picks
pub record IsEndAfter (script : Script) (n : ℕ) (r : Report Any Event) : Type 0 where
  pub ended : r.outcome ≡ Ended
  pub steps : r.steps ≡ n
  pub states : (h : EndsAfter event_order.cmp (script_machine script) n) → AreFinalStates (length (variables_of script.declarations)) h.last r.states
  pub blocked : (h : EndsAfter event_order.cmp (script_machine script) n) → HasLive h.last r.blocked
