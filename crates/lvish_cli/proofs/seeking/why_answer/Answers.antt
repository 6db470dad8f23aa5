use Rattle.std.proofs.Common.{inr}
use Rattle.std.proofs.lemmas.Result.{IfOk-weaker}
use Rattle.lvish_cli.proofs.Named.{both_ok}
use Rattle.lvish_cli.proofs.seeking.why_answer.Goals as goal

pub returns-in-Err : goal.returns-in-Err
returns-in-Err c = IfOk-weaker c.misuse.result _ _ (λ answer h. inr (h.0.0, h.0.1, h.1)) (both_ok c.misuse.result _ _ c.misuse.ensures.status c.misuse.ensures.text)

pub returns-in-None : goal.returns-in-None
returns-in-None c = IfOk-weaker c.misuse-in-None.result _ _ (λ answer h. inr (h.0.0, h.0.1, h.1)) (both_ok c.misuse-in-None.result _ _ c.misuse-in-None.ensures.status c.misuse-in-None.ensures.text)
