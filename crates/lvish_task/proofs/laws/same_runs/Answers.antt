use Rattle.lvish_calculus.proofs.SameRuns.{matching_runs}
use Rattle.lvish_task.specs.Meaning.{script_functions}
use Rattle.lvish_task.specs.Run.{functions}
use Rattle.lvish_task.specs.Pictures.{Pictures, BeginsOnTwo}
use Rattle.lvish_task.proofs.Meant.{code_meant}
use Rattle.lvish_task.proofs.laws.same_runs.Goals as goal

pub returns : goal.returns
returns c = λ s code is. matching_runs _ _ _ _ _ _ _ (functions code) (script_functions s) (Pictures s) (BeginsOnTwo s) (code_meant s code is)
