-- The text of a trace.
use Rattle.std.specs.Prelude.{ℕ, ℤ, codes, List, [], ◌∷◌, ◌++◌, flat_map}
use Rattle.lvish_names.specs.Names.{handed}
use Rattle.lvish_names.specs.NameText.{name_text}
use Rattle.lvish_calculus.specs.declared.label.Label.{Label}
use Rattle.lvish_calculus.specs.declared.label.Label.TheVariants.{Act, Hand}
use Rattle.lvish_trace.specs.declared.trace.TracedStep.{TracedStep}
use Rattle.lvish_trace.specs.declared.trace.TracedStep.TheVariants.{Run as RunOf, Hand as HandOf}

module _ {E : Type 0} (key number : E → ℤ) where
  -- the task that acts, or the one that a handing starts
  abbrev pub label_line : Label E → List ℕ
  label_line (Act t) = codes "run " ++ (name_text key number t ++ 10 ∷ [])
  label_line (Hand h e) = codes "hand " ++ (name_text key number (handed h.adder h.number e) ++ 10 ∷ [])

  -- the same by the task that acts, or that a handing starts
  abbrev pub step_line : TracedStep E → List ℕ
  step_line (RunOf t) = codes "run " ++ (name_text key number t.now ++ 10 ∷ [])
  step_line (HandOf t) = codes "hand " ++ (name_text key number t.now ++ 10 ∷ [])

  -- a line for each step, in their order
  abbrev pub trace_lines : List (Label E) → List ℕ
  trace_lines labels = flat_map (label_line) labels
