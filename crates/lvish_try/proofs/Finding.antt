-- Reports of runs by picks.
use Rattle.std.proofs.Common.{ℕ, List, [], length, subst}
use Rattle.lvish_calculus.specs.Calculus.{Running, start}
use Rattle.lvish_compound.specs.declared.any.Any.{Any}
use Rattle.lvish_compound.specs.declared.event.Event.{Event}
use Rattle.lvish_compound.specs.contracts.event.EventOrd.TheImpl.{ghosts as event_order}
use Rattle.lvish_syntax.specs.declared.script.Script.{Script}
use Rattle.lvish_report.specs.declared.report.Report.{Report}
use Rattle.lvish_report.specs.Text.{variables_of}
use Rattle.lvish_trace.specs.declared.outcome.Outcome.TheVariants.{Ended}
use Rattle.lvish_trace.specs.Traced.{labels_of}
use Rattle.lvish_run.specs.Honest.{IsOutcome}
use Rattle.lvish_run.specs.Picked.{IsPicked}
use Rattle.lvish_run.specs.Scripts.{script_machine, IsPickedRun}
use Rattle.lvish_try.specs.Tried.{IsShown}

module _ (script : Script) where
  -- a report of a run has a state for each variable
  pub shown_there : (picks : List ℕ) (budget : ℕ) (r : Report Any Event) → IsPickedRun script picks budget r → IsShown script r
  shown_there picks budget r run ended =
      let at : IsOutcome (script_machine script) (length (variables_of script.declarations)) budget r Ended =
      subst (λ o. IsOutcome (script_machine script) (length (variables_of script.declarations)) budget r o) ended run.honest.outcome in
      at.0.states.count

  -- other picks that name its labels make the same run
  pub by_others : (picks others : List ℕ) (budget : ℕ) (r : Report Any Event) → IsPickedRun script picks budget r
      → IsPicked event_order.cmp (script_machine script) others [] (Running (start (script_machine script))) (labels_of r.trace) → IsPickedRun script others budget r
  by_others picks others budget r run named = record { honest = run.honest; picked = named; handed = run.handed; alike = run.alike; least = run.least; closed = run.closed }
