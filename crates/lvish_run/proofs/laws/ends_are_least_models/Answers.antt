use Rattle.lvish_run.proofs.OneScript.{ends_are_least}
use Rattle.lvish_run.proofs.laws.ends_are_least_models.Goals as goal

pub returns : goal.returns
returns c = ends_are_least
