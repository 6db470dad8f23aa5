use Rattle.lvish_picture.proofs.Cursors.{hands_below_the_end, hands_the_next, hands_the_held}
use Rattle.lvish_picture.proofs.laws.handed_next.Goals as goal

pub returns-clause-below_the_end : goal.returns-clause-below_the_end
returns-clause-below_the_end g c = λ p. hands_below_the_end _ (c.lawful.ensures p)

pub returns-clause-next : goal.returns-clause-next
returns-clause-next g c = λ p. hands_the_next _ (c.lawful.ensures p) (c.ordered.ensures p)

pub returns-clause-held : goal.returns-clause-held
returns-clause-held g c = λ p. hands_the_held _ (c.lawful.ensures p)
