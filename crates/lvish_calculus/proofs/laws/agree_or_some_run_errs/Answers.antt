use Rattle.lvish_calculus.proofs.Agreement.{agree_or_some_errs, all_lead_or_some_errs}
use Rattle.lvish_calculus.proofs.laws.agree_or_some_run_errs.Goals as goal

pub returns-clause-agree : goal.returns-clause-agree
returns-clause-agree g c = λ p. agree_or_some_errs _ (c.lawful.ensures p)

pub returns-clause-leads : goal.returns-clause-leads
returns-clause-leads g c = λ p. all_lead_or_some_errs _ (c.lawful.ensures p)
