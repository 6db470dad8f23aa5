use Rattle.std.proofs.lemmas.Result.{IfOk-weaker}
use Rattle.lvish_run.proofs.workers.run_program.Goals as goal

pub returns-clause-honest : goal.returns-clause-honest
returns-clause-honest g c = IfOk-weaker c.run_named.result _ _ (λ r z. z.honest) c.run_named.ensures.told

pub returns-clause-handed : goal.returns-clause-handed
returns-clause-handed g c = IfOk-weaker c.run_named.result _ _ (λ r z. z.handed) c.run_named.ensures.told

pub returns-clause-alike : goal.returns-clause-alike
returns-clause-alike g c = IfOk-weaker c.run_named.result _ _ (λ r z. z.alike) c.run_named.ensures.told

pub returns-clause-least : goal.returns-clause-least
returns-clause-least g c = IfOk-weaker c.run_named.result _ _ (λ r z. z.least) c.run_named.ensures.told

pub returns-clause-closed : goal.returns-clause-closed
returns-clause-closed g c = IfOk-weaker c.run_named.result _ _ (λ r z. z.closed) c.run_named.ensures.told
