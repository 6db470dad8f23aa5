use Rattle.lvish_picture.proofs.Cursors.{new_handler, new_task}
use Rattle.lvish_picture.proofs.laws.names_are_new.Goals as goal

pub returns-clause-handlers : goal.returns-clause-handlers
returns-clause-handlers g c = λ p. new_handler _ (c.lawful.ensures p)

pub returns-clause-tasks : goal.returns-clause-tasks
returns-clause-tasks g c = λ p. new_task _ (c.lawful.ensures p)
