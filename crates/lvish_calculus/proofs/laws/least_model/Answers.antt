use Rattle.lvish_calculus.proofs.ClosedEnds.{ends_are_closed}
use Rattle.lvish_calculus.proofs.LeastModel.{runs_are_least, frozen_decides, events_are_supported, plays_are_tasks}
use Rattle.lvish_calculus.proofs.laws.least_model.Goals as goal

pub returns-clause-closed : goal.returns-clause-closed
returns-clause-closed g c = λ p. ends_are_closed _ (c.lawful.ensures p)

pub returns-clause-least : goal.returns-clause-least
returns-clause-least g c = λ p. runs_are_least _ (c.lawful.ensures p)

pub returns-clause-frozen_decides : goal.returns-clause-frozen_decides
returns-clause-frozen_decides g c = λ p. frozen_decides _ (c.lawful.ensures p)

pub returns-clause-supported : goal.returns-clause-supported
returns-clause-supported g c = λ p. events_are_supported _ (c.lawful.ensures p)

pub returns-clause-tasks : goal.returns-clause-tasks
returns-clause-tasks g c = λ p. plays_are_tasks _ (c.lawful.ensures p)
