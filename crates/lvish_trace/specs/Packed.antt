-- Steps by the indices of their tasks, and what they are by the tasks' names.
use Rattle.std.specs.Prelude.{◌≡◌, ℕ, List, Some, map, slice_get, unwrap_or}
use Rattle.lvish_calculus.specs.declared.label.Label.{Label}
use Rattle.lvish_calculus.specs.declared.label.Label.TheVariants.{Act, Hand}
use Rattle.lvish_trace.specs.declared.trace_entry.TraceEntry.{TraceEntry}
use Rattle.lvish_trace.specs.declared.packed_step.PackedStep.{PackedStep}
use Rattle.lvish_trace.specs.declared.packed_step.Step.{Step}
use Rattle.lvish_trace.specs.declared.packed_step.Step.TheVariants.{Act as ActStep, Hand as HandStep}
use Rattle.lvish_trace.specs.PackedView.{index_of}
use Rattle.lvish_names.specs.Names.{Name, Handler, main, handed}

-- the name at the index, where there is one
abbrev pub name_at : {E : Type 0} → List (Name E) → ℕ → Name E
name_at names i = unwrap_or (slice_get names i) main

-- the handing that starts the task of this name
abbrev pub handing_of : {E : Type 0} → Name E → Label E
handing_of (handed t j e) = Hand (record { adder = t; number = j }) e
handing_of t = Act t

-- the label of a step whose task has this name
abbrev pub label_by : {E : Type 0} → Name E → Step → Label E
label_by t (ActStep i) = Act t
label_by t (HandStep i) = handing_of t

-- the label of a step, by the names of the tasks
abbrev pub label_at : {E : Type 0} → List (Name E) → Step → Label E
label_at names step = label_by (name_at names (index_of step)) step

abbrev pub entry_at : {E : Type 0} → List (Name E) → PackedStep → TraceEntry E
entry_at names n = record { worker = n.worker; label = label_at names n.step }

-- the trace of these steps
abbrev pub entries_of : {E : Type 0} → List (Name E) → List PackedStep → List (TraceEntry E)
entries_of names noted = map (entry_at names) noted

-- the step's task is there, and one that a handing starts has the name of such a task
abbrev pub IsStepIn : {E : Type 0} → List (Name E) → Step → Type 0
IsStepIn {E} names (ActStep i) = (t : Name E) × (slice_get names i ≡ Some t)
IsStepIn {E} names (HandStep i) = (h : Handler E) × (e : E) × (slice_get names i ≡ Some (handed h.adder h.number e))

abbrev pub IsPacked : {E : Type 0} → List (Name E) → PackedStep → Type 0
IsPacked names n = IsStepIn names n.step
