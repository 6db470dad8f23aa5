use Rattle.std.proofs.Common.{refl, sym}
use Rattle.lvish_compound.specs.Above.{above_is}
use Rattle.lvish_compound.proofs.above.Above.of.Goals as goal

pub returns-else-eq : goal.returns-else-eq
returns-else-eq g c = sym (above_is _ _ refl)
