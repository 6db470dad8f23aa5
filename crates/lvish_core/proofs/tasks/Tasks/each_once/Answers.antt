use Rattle.lvish_core.proofs.Indices.{each_once}
use Rattle.lvish_core.proofs.tasks.Tasks.each_once.Goals as goal

pub returns : goal.returns
returns g c = each_once _ g.met.E.Eq.laws.refl _ c.stages-stages.ensures.once
