use Rattle.std.proofs.Common.{rules, inl, inr}
use Rattle.std.proofs.lemmas.Result.{IfOk-weaker}
use Rattle.lvish_outcome.proofs.outcome.blocked_part.Goals as goal

pub returns : goal.returns
returns c = IfOk-weaker c.counted_part.result _ _
    (λ t z. elim z [
      | inl e ↦ inl e
      | inr text ↦ inr (record { at = c.in_ok-at.at.items; counts = c.in-Some.counts.items; all = search rules; counted = rw (c.in-Some.is, c.as_slice-2.ensures.value) at c.in_ok-all_counts.ensures; text = rw c.as_slice-in-Some.ensures.value at text })
    ]) c.counted_part.ensures
