-- Runs whose picks are sought, and runs that are made again.
use Rattle.std.specs.Prelude.{◌≡◌, ◌≤◌, ◌⊎◌, ℕ, Bool, List, [], ◌∷◌, ◌++◌, length, Some, None, slice_get}
use Rattle.lvish_compound.specs.declared.any.Any.{Any}
use Rattle.lvish_compound.specs.declared.event.Event.{Event}
use Rattle.lvish_calculus.specs.declared.label.Label.{Label}
use Rattle.lvish_calculus.specs.Machine.{Machine}
use Rattle.lvish_calculus.specs.Calculus.{Configuration, Running, IsRun, start}
use Rattle.lvish_calculus.specs.Handing.{HandsOldestFirst}
use Rattle.lvish_core.specs.declared.limits.TheConstants.{MOST_PROGRAM_STEPS}
use Rattle.lvish_syntax.specs.declared.script.Script.{Script}
use Rattle.lvish_report.specs.declared.report.Report.{Report}
use Rattle.lvish_trace.specs.Traced.{labels_of}
use Rattle.lvish_run.specs.OneScript.{text_of}
use Rattle.lvish_run.specs.SameReports.{TellTheSame}

-- a run of as many steps as a core makes at most, in which each event is handed in the order of its introduction
pub record IsCoreRun {S E R A L : Type 0} (M : Machine S E R A L) (xs : List (Label E)) : Type 0 where
  pub last : Configuration S E L
  pub run : IsRun M (Running (start M)) xs last
  pub core : HandsOldestFirst M xs
  pub within : length xs ≤ MOST_PROGRAM_STEPS

-- the second report is of the first one's run, step by step, and tells the same
pub record IsMadeAgain (script : Script) (r q : Report Any Event) : Type 0 where
  pub labels : labels_of q.trace ≡ labels_of r.trace
  pub told : TellTheSame r q
  pub freezes : r.freezes ≡ q.freezes
  pub text : (all : Bool) → text_of script r all ≡ text_of script q all

-- the list ends in a 0
abbrev pub EndsInZero : List ℕ → Type 0
EndsInZero picks = (before : List ℕ) × (picks ≡ before ++ 0 ∷ [])

-- the same picks at the same places, without some zeros at their end
pub record IsCutOf (picks cut : List ℕ) : Type 0 where
  pub each : (k : ℕ) → (slice_get cut k ≡ slice_get picks k) ⊎ ((slice_get picks k ≡ Some 0) × (slice_get cut k ≡ None))
