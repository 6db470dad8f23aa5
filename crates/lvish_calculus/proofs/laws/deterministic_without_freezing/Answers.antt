use Rattle.lvish_calculus.proofs.Agreement.{agree_or_err, all_lead_to_the_end}
use Rattle.lvish_calculus.proofs.laws.deterministic_without_freezing.Goals as goal

pub returns-clause-agree : goal.returns-clause-agree
returns-clause-agree g c = λ p. agree_or_err _ (c.lawful.ensures p)

pub returns-clause-leads : goal.returns-clause-leads
returns-clause-leads g c = λ p. all_lead_to_the_end _ (c.lawful.ensures p)
