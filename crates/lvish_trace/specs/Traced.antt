-- The labels of a trace, and what one of its steps shows.
use Rattle.std.specs.Prelude.{◌≡◌, ℕ, List, map, Some, slice_get}
use Rattle.lvish_calculus.specs.declared.label.Label.{Label}
use Rattle.lvish_calculus.specs.declared.label.Label.TheVariants.{Act, Hand}
use Rattle.lvish_trace.specs.declared.trace_entry.TraceEntry.{TraceEntry}
use Rattle.lvish_trace.specs.declared.trace.TracedStep.{TracedStep}
use Rattle.lvish_trace.specs.declared.trace.TracedStep.TheVariants.{Run as RunOf, Hand as HandOf}
use Rattle.lvish_names.specs.Names.{handed}

-- the labels of a trace
abbrev pub labels_of : {E : Type 0} → List (TraceEntry E) → List (Label E)
labels_of trace = map (λ e. e.label) trace

-- the label is that of a step of this task, or of the handing that starts this task
abbrev pub Shows : {E : Type 0} → TracedStep E → Label E → Type 0
Shows (RunOf t) l = l ≡ Act t.now
Shows (HandOf t) (Hand h e) = t.now ≡ handed h.adder h.number e
Shows (HandOf t) (Act u) = ⊥

-- the trace has this step at the number
pub record IsTraced {E : Type 0} (trace : List (TraceEntry E)) (number : ℕ) (step : TracedStep E) : Type 0 where
  pub entry : TraceEntry E
  pub there : slice_get trace number ≡ Some entry
  pub shows : Shows step entry.label
