use Rattle.lvish_compound.proofs.Clashes.{maps_clash}
use Rattle.lvish_compound.proofs.laws.maps_of_cells_join_to_top_at_two_values.Goals as goal

pub returns : goal.returns
returns g c = maps_clash _ c.maps_join_to_top_at_some_key.ensures c.cells_join_to_top_at_two_values.ensures
