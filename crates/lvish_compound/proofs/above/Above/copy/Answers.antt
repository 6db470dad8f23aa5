use Rattle.lvish_compound.specs.Above.{same_above}
use Rattle.lvish_compound.proofs.above.Above.copy.Goals as goal

pub returns : goal.returns
returns g c = same_above _ _ c.in_ok-copy.ensures
