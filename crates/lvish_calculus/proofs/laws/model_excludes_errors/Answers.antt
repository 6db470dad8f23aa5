use Rattle.lvish_calculus.proofs.ModelErrors.{only_frozen_or_late, closed_never_errs}
use Rattle.lvish_calculus.proofs.laws.model_excludes_errors.Goals as goal

pub returns-clause-but_of_freezing : goal.returns-clause-but_of_freezing
returns-clause-but_of_freezing g c = λ p. only_frozen_or_late _ (c.lawful.ensures p)

pub returns-clause-without_freezing : goal.returns-clause-without_freezing
returns-clause-without_freezing g c = λ p. closed_never_errs _ (c.lawful.ensures p)
