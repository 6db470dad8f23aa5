use Rattle.lvish_calculus.proofs.FreezeOrder.{crossed_by_order, cross_or_comparable, same_end_same_order, same_end_comparable, cross_or_same_order}
use Rattle.lvish_calculus.proofs.laws.order_decides.Goals as goal

pub returns-clause-crossed : goal.returns-clause-crossed
returns-clause-crossed g c = λ p. crossed_by_order _ (c.lawful.ensures p)

pub returns-clause-either : goal.returns-clause-either
returns-clause-either g c = λ p. cross_or_comparable _ (c.lawful.ensures p)

pub returns-clause-same_order : goal.returns-clause-same_order
returns-clause-same_order g c = λ p. same_end_same_order _ (c.lawful.ensures p)

pub returns-clause-comparable : goal.returns-clause-comparable
returns-clause-comparable g c = λ p. same_end_comparable _ (c.lawful.ensures p)

pub returns-clause-or_same : goal.returns-clause-or_same
returns-clause-or_same g c = λ p. cross_or_same_order _ (c.lawful.ensures p)
