use Rattle.lvish_task.specs.Meaning.{script_functions}
use Rattle.lvish_task.specs.Run.{functions}
use Rattle.lvish_task.specs.Pictures.{Pictures, BeginsOnTwo}
use Rattle.lvish_task.proofs.Meant.{code_meant}
use Rattle.lvish_task.proofs.SamePlays.{matching_plays}
use Rattle.lvish_task.proofs.SameModels.{runs_least, ends_closed, frozen_decide}
use Rattle.lvish_task.proofs.laws.same_models.Goals as goal

pub returns-clause-plays : goal.returns-clause-plays
returns-clause-plays c = λ s code is. matching_plays _ _ _ _ _ _ _ (functions code) (script_functions s) (Pictures s) (BeginsOnTwo s) (code_meant s code is)

pub returns-clause-closed : goal.returns-clause-closed
returns-clause-closed c = λ s code is.
    ends_closed _ _ _ _ _ _ _ (functions code) (script_functions s) (c.same_runs.ensures s code is)
    (matching_plays _ _ _ _ _ _ _ (functions code) (script_functions s) (Pictures s) (BeginsOnTwo s) (code_meant s code is)) (c.least_model.ensures.closed code)

pub returns-clause-least : goal.returns-clause-least
returns-clause-least c = λ s code is.
    runs_least _ _ _ _ _ _ _ (functions code) (script_functions s) (c.same_runs.ensures s code is)
    (matching_plays _ _ _ _ _ _ _ (functions code) (script_functions s) (Pictures s) (BeginsOnTwo s) (code_meant s code is)) (c.least_model.ensures.least code)

pub returns-clause-frozen_decides : goal.returns-clause-frozen_decides
returns-clause-frozen_decides c = λ s code is.
    frozen_decide _ _ _ _ _ _ _ (functions code) (script_functions s) (c.same_runs.ensures s code is)
    (matching_plays _ _ _ _ _ _ _ (functions code) (script_functions s) (Pictures s) (BeginsOnTwo s) (code_meant s code is)) (c.least_model.ensures.frozen_decides code)
