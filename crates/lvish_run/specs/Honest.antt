-- What an honest report is.
use Rattle.std.specs.Prelude.{◌≡◌, ◌<◌, ◌≤◌, ◌==◌, ℕ, List, [], length, sum, count_by, Some, slice_get}
use Rattle.lvish_calculus.specs.declared.label.Label.{Label}
use Rattle.lvish_calculus.specs.Machine.{Machine}
use Rattle.lvish_calculus.specs.Calculus.{State, Running, Error, IsEnabled, IsRun, IsEnd, start}
use Rattle.lvish_calculus.specs.Laws.{Reaches}
use Rattle.lvish_calculus.specs.FreezeOrder.{freeze_order}
use Rattle.lvish_calculus.specs.Handing.{HandsOldestFirst}
use Rattle.lvish_calculus.specs.Live.{HasLive}
use Rattle.lvish_trace.specs.Traced.{labels_of}
use Rattle.lvish_trace.specs.declared.trace_entry.TraceEntry.{TraceEntry}
use Rattle.lvish_report.specs.declared.report.FinalState.{FinalState}
use Rattle.lvish_report.specs.declared.report.Report.{Report}
use Rattle.lvish_trace.specs.declared.outcome.Outcome.{Outcome}
use Rattle.lvish_trace.specs.declared.outcome.Outcome.TheVariants.{Ended, Error as ErrorOutcome, Budget}

-- the contents and frozen marks of all variables, in their order
pub record AreFinalStates {S E L : Type 0} (variables : ℕ) (c : State S E L) (states : List (FinalState S)) : Type 0 where
  pub count : length states ≡ variables
  pub each : (v : ℕ) → v < variables → slice_get states v ≡ Some (record { content = c.content v; frozen = c.frozen v })

-- the run leads without an error to a configuration with these states and this many tasks that haven't ended
pub record Comes {S E R A L : Type 0} (M : Machine S E R A L) (variables : ℕ) (r : Report S E) : Type 0 where
  pub last : State S E L
  pub reached : Reaches M (labels_of r.trace) last
  pub states : AreFinalStates variables last r.states
  pub blocked : HasLive last r.blocked

-- what the outcome says
abbrev pub IsOutcome : {S E R A L : Type 0} → Machine S E R A L → (variables budget : ℕ) → Report S E → Outcome E → Type 0
IsOutcome M variables budget r Ended = (h : Comes M variables r) × IsEnd M h.last
IsOutcome M variables budget r (ErrorOutcome kind v t) = IsRun M (Running (start M)) (labels_of r.trace) (Error kind v t) × (r.states ≡ []) × (r.blocked ≡ 0)
IsOutcome {E = E} M variables budget r Budget = (h : Comes M variables r) × (r.steps ≡ budget) × ((l : Label E) × IsEnabled M h.last l)

-- the number of each worker's entries in a trace, by the worker's number; they add up to all
pub record IsCountByWorker {E : Type 0} (workers : ℕ) (trace : List (TraceEntry E)) (counts : List ℕ) : Type 0 where
  pub count : length counts ≡ workers
  pub each : (w : ℕ) → w < workers → slice_get counts w ≡ Some (count_by (λ e. e.worker == w) trace)
  pub adds_up : sum counts ≡ length trace

-- an honest report of a run by this many workers, within the budget
pub record IsHonest {S E R A L : Type 0} (M : Machine S E R A L) (variables workers budget : ℕ) (r : Report S E) : Type 0 where
  -- the trace is a run in which each event is handed in the order of its introduction
  pub core_run : HandsOldestFirst M (labels_of r.trace)
  pub steps : r.steps ≡ length r.trace
  pub within : r.steps ≤ budget
  pub outcome : IsOutcome M variables budget r r.outcome
  -- each worker's number of steps
  pub by_worker : IsCountByWorker workers r.trace r.by_worker
  -- the variables in the order in which this run first freezes them
  pub freezes : r.freezes ≡ freeze_order M (labels_of r.trace)
