use Rattle.lvish_again.proofs.MadeAgain.{run_is}
use Rattle.lvish_again.proofs.laws.reports_are_core_runs.Goals as goal

pub returns : goal.returns
returns c = λ s b r small is. run_is s b r small is
