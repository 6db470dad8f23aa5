use Rattle.lvish_lattice.proofs.Top.{cells_top}
use Rattle.lvish_lattice.proofs.laws.cells_join_to_top_at_two_values.Goals as goal

pub returns : goal.returns
returns g c = cells_top g.V.PartialEq.eq g.met.V.Plain.identical g.met.V.Eq.laws
