use Rattle.lvish_compound.specs.MapOf.{same_map}
use Rattle.lvish_compound.proofs.map_of.MapOfLattice.copy.Goals as goal

pub returns : goal.returns
returns g c = same_map _ _ c.in_ok-entries.ensures
