-- The lines of a trace, step by step.
use Rattle.std.proofs.Common.{◌≡◌, ◌+◌, ◌++◌, ◌∷◌, [], ℕ, ℤ, List, codes, take, flat_map, sym, ap, ap₂, ◌∙◌}
use Rattle.std.proofs.lemmas.List.{flat_map_more, map_more}
use Rattle.std.proofs.lemmas.Option.{slice_get_within, get_or_from_slice_get}
use Rattle.lvish_names.specs.NameText.{name_text}
use Rattle.lvish_calculus.specs.declared.label.Label.{Label}
use Rattle.lvish_calculus.specs.declared.label.Label.TheVariants.{Act, Hand}
use Rattle.lvish_trace.specs.declared.trace_entry.TraceEntry.{TraceEntry}
use Rattle.lvish_trace.specs.declared.trace.TracedStep.{TracedStep}
use Rattle.lvish_trace.specs.declared.trace.TracedStep.TheVariants.{Run as RunOf, Hand as HandOf}
use Rattle.lvish_trace.specs.Traced.{Shows, IsTraced}
use Rattle.lvish_trace.specs.Traced.{labels_of}
use Rattle.lvish_report.specs.TraceText.{label_line, step_line, trace_lines}

module _ {E : Type 0} (key number : E → ℤ) where
  -- the line of a step is that of the label that it shows
  shown_line : (step : TracedStep E) (l : Label E) → Shows step l → step_line key number step ≡ label_line key number l
  shown_line (RunOf t) l is = sym (ap (label_line key number) is)
  shown_line (HandOf t) (Hand h e) is = ap (λ n. codes "hand " ++ (name_text key number n ++ 10 ∷ [])) is
  shown_line (HandOf t) (Act u) is = absurd is

  -- the text of one step more
  pub one_more : (trace : List (TraceEntry E)) (k : ℕ) (step : TracedStep E) (text : List ℕ) → text ≡ trace_lines key number (labels_of (take k trace)) → IsTraced trace k step
      → text ++ step_line key number step ≡ trace_lines key number (labels_of (take (k + 1) trace))
  one_more trace k step text so_far is =
      let within = slice_get_within trace k is.entry is.there in
      let here = get_or_from_slice_get trace k is.entry is.entry is.there in
      ap₂ (λ a b. a ++ b) so_far (shown_line step is.entry.label is.shows)
      ∙ flat_map_more (label_line key number) [] (labels_of (take k trace)) is.entry.label
      ∙ sym (ap (flat_map (label_line key number)) (map_more (λ (e : TraceEntry E). e.label) trace k is.entry within ∙ ap (λ (e : TraceEntry E). labels_of (take k trace) ++ e.label ∷ []) here))
