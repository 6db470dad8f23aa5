use Rattle.lvish_lattice.proofs.Top.{sets_never_top}
use Rattle.lvish_lattice.proofs.laws.sets_never_join_to_top.Goals as goal

pub returns : goal.returns
returns g c = sets_never_top g.met.V.Ord.total
