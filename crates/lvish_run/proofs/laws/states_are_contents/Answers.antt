use Rattle.std.proofs.Common.{refl}
use Rattle.lvish_run.proofs.laws.states_are_contents.Goals as goal

pub returns-clause-contents : goal.returns-clause-contents
returns-clause-contents c = (refl, refl, refl)

pub returns-clause-frozen : goal.returns-clause-frozen
returns-clause-frozen c = (refl, refl, refl)
