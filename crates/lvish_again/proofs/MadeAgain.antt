-- A run that picks make again.
use Rattle.std.proofs.Common.{◌≡◌, ◌≤◌, inl, inr, ℕ, Bool, List, [], ◌++◌, length, refl, sym, ap, ◌∙◌, arith}
use Rattle.lvish_compound.specs.declared.any.Any.{Any}
use Rattle.lvish_compound.specs.declared.event.Event.{Event}
use Rattle.lvish_compound.specs.contracts.event.EventOrd.TheImpl.{ghosts as event_order}
use Rattle.lvish_compound.specs.contracts.event.EventOrd.TheImpl.Laws.{total-law}
use Rattle.lvish_calculus.specs.Calculus.{Running, start}
use Rattle.lvish_calculus.specs.FreezeOrder.{freeze_order}
use Rattle.lvish_run.specs.declared.limits.TheConstants.{MOST_STEPS}
use Rattle.lvish_syntax.specs.declared.script.Script.{Script}
use Rattle.lvish_report.specs.declared.report.Report.{Report}
use Rattle.lvish_report.specs.Text.{variables_of, variable_lines, count_lines, budget_line, outcome_text}
use Rattle.lvish_trace.specs.declared.outcome.Outcome.{Outcome}
use Rattle.lvish_trace.specs.declared.outcome.Outcome.TheVariants.{Ended, Error as ErrorOutcome, Budget}
use Rattle.lvish_trace.specs.Traced.{labels_of}
use Rattle.lvish_run.specs.Honest.{IsHonest}
use Rattle.lvish_run.specs.OneScript.{IsReportOf, text_of}
use Rattle.lvish_run.specs.Picked.{IsPicked}
use Rattle.lvish_run.specs.SameReports.{TellTheSame}
use Rattle.lvish_run.specs.Scripts.{script_machine, IsPickedRun}
use Rattle.lvish_again.specs.Again.{IsCoreRun, IsMadeAgain}
use Rattle.lvish_again.proofs.OneOutcome.{same_labels, tell_the_same, run_of, long}

module _ (script : Script) where
  abbrev variables : ℕ
  variables = length (variables_of script.declarations)

  -- every report of a script is honest
  honest_of : (budget : ℕ) (r : Report Any Event) → IsReportOf script budget r → (workers : ℕ) × IsHonest (script_machine script) variables workers budget r
  honest_of budget r (inl x) = (x.0, x.1.honest)
  honest_of budget r (inr x) = (1, x.1.honest)

  -- its trace is a run that a core can make
  pub run_is : (budget : ℕ) (r : Report Any Event) → budget ≤ MOST_STEPS → IsReportOf script budget r → IsCoreRun (script_machine script) (labels_of r.trace)
  run_is budget r small is =
      let h = honest_of budget r is in
      let run = run_of (script_machine script) variables h.0 budget r h.1 in
      record {
        last = run.0;
        run = run.1;
        core = h.1.core_run;
        within = omega (arith, small, long (script_machine script) variables h.0 budget r h.1, h.1.within);
      }

  text_by : (r q : Report Any Event) → TellTheSame r q → (all : Bool) (o : Outcome Event)
      → outcome_text (λ (e : Event). e.key) (λ (e : Event). e.number) (variables_of script.declarations) r all o ≡ outcome_text (λ (e : Event). e.key) (λ (e : Event). e.number) (variables_of script.declarations) q all o
  text_by r q t all Ended = λ i. variable_lines all (variables_of script.declarations) (t.states i) ++ count_lines (t.steps i) (t.blocked i)
  text_by r q t all (ErrorOutcome kind v u) = refl
  text_by r q t all Budget = ap budget_line t.steps

  -- reports that tell the same have the same text
  same_text : (r q : Report Any Event) → TellTheSame r q → (all : Bool) → text_of script r all ≡ text_of script q all
  same_text r q t all = text_by r q t all r.outcome
      ∙ ap (λ o. outcome_text (λ (e : Event). e.key) (λ (e : Event). e.number) (variables_of script.declarations) q all o) t.outcome

  pub again : (picks : List ℕ) (budget : ℕ) (r q : Report Any Event) → IsReportOf script budget r
      → IsPicked event_order.cmp (script_machine script) picks [] (Running (start (script_machine script))) (labels_of r.trace)
      → IsPickedRun script picks budget q → IsMadeAgain script r q
  again picks budget r q is picked run =
      let h = honest_of budget r is in
      let same = same_labels event_order.cmp total-law (script_machine script) variables h.0 1 budget r q h.1 run.honest picks picked run.picked in
      let told = tell_the_same event_order.cmp total-law (script_machine script) variables h.0 1 budget r q h.1 run.honest same in
      record {
        labels = sym same;
        told = told;
        freezes = h.1.freezes ∙ ap (freeze_order (script_machine script)) same ∙ sym run.honest.freezes;
        text = same_text r q told;
      }
