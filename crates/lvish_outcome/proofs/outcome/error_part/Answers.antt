use Rattle.std.proofs.Common.{inr}
use Rattle.std.proofs.lemmas.Result.{IfOk-weaker}
use Rattle.lvish_outcome.proofs.outcome.error_part.Goals as goal

pub returns-in-Some : goal.returns-in-Some
returns-in-Some c = IfOk-weaker c.error_text.result _ _ (λ t e. inr (record { told = c.in-Some.found; of = rw c.in-Some.is at c.in_ok-error_told.ensures.of; rests = rw c.in-Some.is at c.in_ok-error_told.ensures.rests; is = e })) c.error_text.ensures
