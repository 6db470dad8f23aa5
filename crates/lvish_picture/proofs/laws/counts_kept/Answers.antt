use Rattle.lvish_picture.proofs.Counted.{put_counted, freeze_counted, add_counted, plain_counted, hand_counted}
use Rattle.lvish_picture.proofs.laws.counts_kept.Goals as goal

pub returns-clause-put : goal.returns-clause-put
returns-clause-put g c = λ p. put_counted _ (c.lawful.ensures p) (c.ordered.ensures p)

pub returns-clause-freeze : goal.returns-clause-freeze
returns-clause-freeze g c = λ p. freeze_counted _ (c.lawful.ensures p)

pub returns-clause-add : goal.returns-clause-add
returns-clause-add g c = λ p. add_counted _ (c.lawful.ensures p)

pub returns-clause-plain : goal.returns-clause-plain
returns-clause-plain g c = λ p. plain_counted _ (c.lawful.ensures p)

pub returns-clause-hand : goal.returns-clause-hand
returns-clause-hand g c = λ p. hand_counted _ (c.lawful.ensures p)
