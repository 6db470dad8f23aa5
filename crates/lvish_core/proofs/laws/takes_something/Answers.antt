use Rattle.lvish_core.proofs.laws.takes_something.Goals as goal

pub returns : goal.returns
returns g c = λ p. Rattle.lvish_core.proofs.Takes.takes_something _ (c.lawful.ensures p) (c.ordered.ensures p) (c.handed_next.ensures.below_the_end p) (c.handed_next.ensures.next p) (c.handed_next.ensures.held p)
