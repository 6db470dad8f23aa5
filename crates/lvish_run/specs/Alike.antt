-- What a report says of all other runs of the program.
use Rattle.std.specs.Prelude.{◌≡◌, ℕ, List, length}
use Rattle.lvish_calculus.specs.declared.label.Label.{Label}
use Rattle.lvish_calculus.specs.Machine.{Machine}
use Rattle.lvish_calculus.specs.Calculus.{State, Running, IsEnd, start}
use Rattle.lvish_names.specs.Names.{Name}
use Rattle.lvish_calculus.specs.Laws.{Reaches, IsCrossed, FreezesAllBy, NeverErrs}
use Rattle.lvish_calculus.specs.FreezeOrder.{freeze_order}
use Rattle.lvish_calculus.specs.Handing.{IsWellHanded}
use Rattle.lvish_calculus.specs.Live.{HasLive}
use Rattle.lvish_report.specs.declared.report.Report.{Report}
use Rattle.lvish_trace.specs.declared.outcome.Outcome.TheVariants.{Ended}
use Rattle.lvish_run.specs.Honest.{AreFinalStates, IsHonest}
use Rattle.lvish_run.specs.Least.{IsLeast, IsClosedEnd}
use Rattle.lvish_trace.specs.Traced.{labels_of}

-- each run that ends without an error has the report's states, steps and blocked tasks, if this holds of the report's trace and that run
abbrev pub EndsAlikeIf : {S E R A L : Type 0} → Machine S E R A L → ℕ → Report S E → (List (Label E) → List (Label E) → Type 0) → Type 0
EndsAlikeIf {S} {E} {R} {A} {L} M variables r P = (ys : List (Label E)) (b : State S E L) → Reaches M ys b → IsEnd M b → P (labels_of r.trace) ys
    → AreFinalStates variables b r.states × HasLive b r.blocked × (length ys ≡ r.steps)

pub record EndsAlike {S E R A L : Type 0} (M : Machine S E R A L) (variables : ℕ) (r : Report S E) : Type 0 where
  -- the runs freeze variables in the same order
  pub same_order : EndsAlikeIf M variables r (λ xs ys. freeze_order M xs ≡ freeze_order M ys)
  -- the runs don't cross, which of ends is the same (the law `order_decides` of lvish_calculus)
  pub uncrossed : EndsAlikeIf M variables r (λ xs ys. IsCrossed M xs ys → ⊥)
  -- one task asks for all freezes of both
  pub one_asks : EndsAlikeIf M variables r (λ xs ys. (t : Name E) × FreezesAllBy M t (Running (start M)) xs × FreezesAllBy M t (Running (start M)) ys)
  -- no run of the program is in error
  pub no_error : EndsAlikeIf M variables r (λ xs ys. NeverErrs M)

-- what a report of an end says of all other ends
abbrev pub IsAlike : {S E R A L : Type 0} → Machine S E R A L → ℕ → Report S E → Type 0
IsAlike M variables r = r.outcome ≡ Ended → EndsAlike M variables r

-- what is said of every report of a run by this many workers, within the budget
pub record IsTold {S E R A L : Type 0} (M : Machine S E R A L) (variables workers budget : ℕ) (r : Report S E) : Type 0 where
  pub honest : IsHonest M variables workers budget r
  -- what handlers are handed in it
  pub handed : IsWellHanded M (labels_of r.trace)
  -- what it says of all other ends
  pub alike : IsAlike M variables r
  -- what its contents are among all models
  pub least : IsLeast M r
  pub closed : IsClosedEnd M r
