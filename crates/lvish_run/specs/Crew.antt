-- How many of the steps that a board noted each worker made, whose a step is, and why a run can't go on.
use Rattle.std.specs.Prelude.{◌≡◌, ◌⊎◌, ◌<◌, ◌==◌, ◌++◌, ◌∷◌, ℕ, Bool, false, List, [], length, sum, count_by, Option, None, Some, slice_get}
use Rattle.lvish_calculus.specs.declared.label.Label.{Label}
use Rattle.lvish_trace.specs.declared.packed_step.PackedStep.{PackedStep}
use Rattle.lvish_trace.specs.declared.trace_entry.TraceEntry.{TraceEntry}
use Rattle.lvish_run.specs.declared.fault.RunFault.{RunFault}
use Rattle.lvish_run.specs.declared.fault.RunFault.TheVariants.{NoThread, Memory, Stopped}
use Rattle.lvish_run.specs.declared.leave.Leave.{Leave}
use Rattle.lvish_run.specs.declared.leave.Leave.TheVariants.{Over, Others, Stopped as AsStopped, Memory as ForMemory, Missing}

-- the number of each worker's steps among those that a board noted, by the worker's number; they add up to all
pub record AreCounts (workers : ℕ) (noted : List PackedStep) (counts : List ℕ) : Type 0 where
  pub count : length counts ≡ workers
  pub each : (w : ℕ) → w < workers → slice_get counts w ≡ Some (count_by (λ n. n.worker == w) noted)
  pub adds_up : sum counts ≡ length noted

-- the trace has one step more, this worker's, or none
abbrev pub MakesBy : {E : Type 0} → ℕ → List (TraceEntry E) → List (TraceEntry E) → Type 0
MakesBy {E} worker old new = (new ≡ old) ⊎ ((l : Label E) × (new ≡ old ++ record { worker = worker; label = l } ∷ []))

-- how much a worker's reason to leave hinders the run
abbrev pub hindrance : Leave → ℕ
hindrance Over = 0
hindrance Others = 1
hindrance AsStopped = 2
hindrance ForMemory = 3
hindrance Missing = 4

-- why a run can't go on of which this hinders most; None where it can
abbrev pub fault_of : Leave → Option RunFault
fault_of Over = None
fault_of Others = None
fault_of AsStopped = Some Stopped
fault_of ForMemory = Some Memory
fault_of Missing = Some NoThread

-- a worker may leave for this reason, at a gate that is patient or not: its thread is there, and only an impatient gate stops it
abbrev pub MayLeave : Bool → Leave → Type 0
MayLeave patient Over = Unit {0}
MayLeave patient Others = Unit {0}
MayLeave patient AsStopped = patient ≡ false
MayLeave patient ForMemory = Unit {0}
MayLeave patient Missing = ⊥
