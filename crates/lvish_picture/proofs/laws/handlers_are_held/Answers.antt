use Rattle.lvish_picture.proofs.Cursors.{posts_are_held, tasks_are_held}
use Rattle.lvish_picture.proofs.laws.handlers_are_held.Goals as goal

pub returns-clause-posts : goal.returns-clause-posts
returns-clause-posts g c = λ p. posts_are_held _ (c.lawful.ensures p)

pub returns-clause-tasks : goal.returns-clause-tasks
returns-clause-tasks g c = λ p. tasks_are_held _ (c.lawful.ensures p)
