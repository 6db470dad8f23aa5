use Rattle.lvish_rules.proofs.Plays.{runs_agree, runs_lead_to_the_end}
use Rattle.lvish_rules.proofs.Unerring.{never_errs}
use Rattle.lvish_rules.proofs.Tops.{errs_at_top}
use Rattle.lvish_rules.proofs.laws.deterministic.Goals as goal

pub returns-clause-agree : goal.returns-clause-agree
returns-clause-agree g c = λ p. runs_agree _ _ g.R.Lat.Event.Ord.cmp _ _ _ _ (g.R.Rules.rule_set p.rules) (c.lawful.ensures p)

pub returns-clause-leads : goal.returns-clause-leads
returns-clause-leads g c = λ p. runs_lead_to_the_end _ _ g.R.Lat.Event.Ord.cmp _ _ _ _ (g.R.Rules.rule_set p.rules) (c.lawful.ensures p)

pub returns-clause-erring : goal.returns-clause-erring
returns-clause-erring g c = λ p. errs_at_top _ _ g.R.Lat.Event.Ord.cmp _ _ _ _ (g.R.Rules.rule_set p.rules) (c.lawful.ensures p)

pub returns-clause-unerring : goal.returns-clause-unerring
returns-clause-unerring g c = λ p rank never_top ranked. never_errs _ _ g.R.Lat.Event.Ord.cmp _ _ _ _ (g.R.Rules.rule_set p.rules) (c.lawful.ensures p) never_top rank ranked
