use Rattle.std.proofs.Common.{◌∙◌, sym}
use Rattle.std.proofs.lemmas.List.{length-map}
use Rattle.std.specs.List.{list_any}
use Rattle.lvish_checks.specs.Text.{is_foreign}
use Rattle.lvish_checks.proofs.Lines.{at_map, passes_more, passes_all, lowest_here}
use Rattle.lvish_checks.proofs.check.not_ascii.first_not_ascii.Goals as goal

pub returns-then-has_foreign : goal.returns-then-has_foreign
returns-then-has_foreign c = lowest_here _ _ c.loop-k.k c.loop-k.invariant (at_map (λ w. w.now) (list_any is_foreign) c.args.lines.now c.loop-k.k _ c.loop-k-test.true ∙ sym c.has_foreign.ensures ∙ c.if-has_foreign.true)

pub loop-k-preserved : goal.loop-k-preserved
loop-k-preserved c = passes_more _ _ c.loop-k.k c.loop-k.invariant (at_map (λ w. w.now) (list_any is_foreign) c.args.lines.now c.loop-k.k _ c.loop-k-test.true ∙ sym c.has_foreign.ensures ∙ c.if-has_foreign.false)

pub returns : goal.returns
returns c = passes_all _ _ c.loop-k.k (simp length-map c.loop-k-test.false) c.loop-k.invariant
