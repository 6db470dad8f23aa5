use Rattle.lvish_run.proofs.Leaving.{missing_is_not_stopped}
use Rattle.lvish_run.proofs.crew.fn.run_workers.scope.Goals as goal

pub loop-shift-preserved : goal.loop-shift-preserved
loop-shift-preserved g c = λ patient same. missing_is_not_stopped same
