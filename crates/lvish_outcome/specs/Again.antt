-- The command that makes a run again.
use Rattle.std.specs.Prelude.{◌≡◌, ◌⊎◌, ℕ, List, [], ◌∷◌, ◌++◌, codes}
use Rattle.std.specs.Fmt.{decimal}
use Rattle.lvish_compound.specs.declared.any.Any.{Any}
use Rattle.lvish_compound.specs.declared.event.Event.{Event}
use Rattle.lvish_compound.specs.contracts.event.EventOrd.TheImpl.{ghosts as event_order}
use Rattle.lvish_calculus.specs.Calculus.{Running, start}
use Rattle.lvish_syntax.specs.declared.script.Script.{Script}
use Rattle.lvish_trace.specs.declared.outcome.Outcome.{Outcome}
use Rattle.lvish_trace.specs.declared.outcome.Outcome.TheVariants.{Budget}
use Rattle.lvish_trace.specs.Traced.{labels_of}
use Rattle.lvish_report.specs.declared.report.Report.{Report}
use Rattle.lvish_run.specs.Picked.{IsPicked}
use Rattle.lvish_run.specs.Scripts.{script_machine}
use Rattle.lvish_again.specs.Text.{picks_text}

-- the budget, where it is used up
abbrev pub steps_text : Outcome Event → ℕ → List ℕ
steps_text Budget n = codes " --steps " ++ decimal n
steps_text o n = []

-- the command with picks
abbrev pub again_text : List ℕ → Outcome Event → ℕ → List ℕ → List ℕ
again_text file o n picks = codes "again: lvish pick " ++ (file ++ (steps_text o n ++ (picks_text picks ++ 10 ∷ [])))

-- the picks name the report's run
abbrev pub Names : Script → Report Any Event → List ℕ → Type 0
Names script r picks = IsPicked event_order.cmp (script_machine script) picks [] (Running (start (script_machine script))) (labels_of r.trace)

-- nothing, or the command with picks that name the report's run
abbrev pub IsAgain : List ℕ → Script → Report Any Event → List ℕ → Type 0
IsAgain file script r out = (out ≡ []) ⊎ ((picks : List ℕ) × Names script r picks × (out ≡ again_text file r.outcome r.steps picks))

-- the same, behind a text
abbrev pub IsAgainAfter : List ℕ → Script → Report Any Event → List ℕ → List ℕ → Type 0
IsAgainAfter file script r before out = (again : List ℕ) × IsAgain file script r again × (out ≡ before ++ again)
