use Rattle.std.proofs.Common.{inr}
use Rattle.std.proofs.lemmas.Result.{IfOk-weaker}
use Rattle.lvish_outcome.proofs.outcome.counted_part.Goals as goal

pub returns-in-Some : goal.returns-in-Some
returns-in-Some c = IfOk-weaker c.blocked_texts.result _ _ (λ t e. inr (record { told = c.in-Some.found.items; rows = rw c.in-Some.is at c.in_ok-blocked_told.ensures; is = rw c.as_slice.ensures.value at e })) c.blocked_texts.ensures
