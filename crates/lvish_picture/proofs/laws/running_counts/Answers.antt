use Rattle.lvish_picture.proofs.Running.{few_run, some_run}
use Rattle.lvish_picture.proofs.laws.running_counts.Goals as goal

pub returns-clause-few : goal.returns-clause-few
returns-clause-few g c = λ p. few_run _ (c.lawful.ensures p)

pub returns-clause-some : goal.returns-clause-some
returns-clause-some g c = λ p. some_run _ (c.lawful.ensures p)
