use Rattle.lvish_compound.proofs.StatesClash.{states_top}
use Rattle.lvish_compound.proofs.laws.states_join_to_top_where_they_clash.Goals as goal

pub returns : goal.returns
returns c = states_top c.maps_of_cells_join_to_top_at_two_values.ensures
