use Rattle.lvish_calculus.proofs.Independence.{disjoint_commute, steps_stay}
use Rattle.lvish_calculus.proofs.laws.independence.Goals as goal

pub returns-clause-disjoint : goal.returns-clause-disjoint
returns-clause-disjoint g c = λ p. disjoint_commute _ (c.lawful.ensures p)

pub returns-clause-greater : goal.returns-clause-greater
returns-clause-greater g c = λ p. steps_stay _ (c.lawful.ensures p)
