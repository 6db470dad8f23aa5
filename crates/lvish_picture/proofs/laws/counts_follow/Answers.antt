use Rattle.lvish_picture.proofs.Running.{start_is_followed, end_is_followed, rest_is_followed}
use Rattle.lvish_picture.proofs.laws.counts_follow.Goals as goal

pub returns-clause-start : goal.returns-clause-start
returns-clause-start g c = λ p. start_is_followed _ (c.lawful.ensures p)

pub returns-clause-end : goal.returns-clause-end
returns-clause-end g c = λ p. end_is_followed _ (c.lawful.ensures p)

pub returns-clause-rest : goal.returns-clause-rest
returns-clause-rest g c = λ p. rest_is_followed _ (c.lawful.ensures p)
