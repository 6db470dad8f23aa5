use Rattle.std.proofs.Common.{inr}
use Rattle.std.proofs.lemmas.Result.{IfOk-weaker}
use Rattle.lvish_outcome.proofs.outcome.budget_part.Goals as goal

pub returns : goal.returns
returns c = IfOk-weaker c.budget_text.result _ _
    (λ t e. inr (record { at = c.in_ok-at.at.items; counts = c.in-Some.counts.items; most = c.in_ok-most-in-Some.most.items; all = c.in_ok-at.ensures; counted = rw (c.in-Some.is, c.as_slice.ensures.value) at c.in_ok-all_counts.ensures; busiest = rw c.as_mut_slice.ensures.value at c.in_ok-most-in-Some.ensures; is = rw c.as_slice-in-Some.ensures.value at e }))
    c.budget_text.ensures
