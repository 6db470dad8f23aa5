use Rattle.std.proofs.Common.{true, refl}
use Rattle.lvish_run.proofs.Leaving.{left_not_missing, left_not_mixed, left_not_stopped, not_stopped}
use Rattle.lvish_run.proofs.workers.alone.Goals as goal

pub returns-in-Some-clause-not_stopped : goal.returns-in-Some-clause-not_stopped
returns-in-Some-clause-not_stopped g c = left_not_stopped _ _ _ c.fault.ensures c.in-Some.is (not_stopped true _ c.work.ensures refl)

pub returns-in-Some-clause-whole : goal.returns-in-Some-clause-whole
returns-in-Some-clause-whole g c = left_not_mixed _ _ _ c.fault.ensures c.in-Some.is

pub returns-in-Some-clause-all_there : goal.returns-in-Some-clause-all_there
returns-in-Some-clause-all_there g c = left_not_missing _ _ _ c.fault.ensures c.in-Some.is true c.work.ensures
