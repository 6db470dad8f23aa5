use Rattle.lvish_calculus.proofs.Runs.{same_labels_uncrossed, same_labels_one_asks, same_labels_no_error}
use Rattle.lvish_calculus.proofs.laws.same_labels.Goals as goal

pub returns-clause-uncrossed : goal.returns-clause-uncrossed
returns-clause-uncrossed g c = λ p. same_labels_uncrossed _ (c.lawful.ensures p)

pub returns-clause-one_asks : goal.returns-clause-one_asks
returns-clause-one_asks g c = λ p. same_labels_one_asks _ (c.lawful.ensures p)

pub returns-clause-no_error : goal.returns-clause-no_error
returns-clause-no_error g c = λ p. same_labels_no_error _ (c.lawful.ensures p)
