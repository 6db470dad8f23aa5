use Rattle.lvish_lattice.proofs.Top.{counters_never_top}
use Rattle.lvish_lattice.proofs.laws.counters_never_join_to_top.Goals as goal

pub returns : goal.returns
returns c = counters_never_top
