use Rattle.std.proofs.Common.{inr}
use Rattle.std.proofs.lemmas.Result.{IfOk-weaker}
use Rattle.lvish_outcome.proofs.again.again_of.Goals as goal

pub returns-in-Some : goal.returns-in-Some
returns-in-Some c = IfOk-weaker c.again_text.result _ _ (λ t e. inr (c.in-Some.picks.items, rw c.in-Some.is at c.in_ok-picks.ensures.picks, rw c.as_slice.ensures.value at e)) c.again_text.ensures
