use Rattle.std.proofs.Common.{refl, sym}
use Rattle.lvish_compound.specs.laws.SidesLaws.{above_is}
use Rattle.lvish_compound.proofs.sides.Sides.of.Goals as goal

pub returns-else-is_empty : goal.returns-else-is_empty
returns-else-is_empty c = sym (above_is _ _ refl)
