use Rattle.lvish_compound.proofs.StatesClash.{parts_top}
use Rattle.lvish_compound.proofs.laws.parts_join_to_top_where_they_clash.Goals as goal

pub returns : goal.returns
returns c = parts_top
