use Rattle.lvish_lattice.specs.GrowSet.{below_from}
use Rattle.lvish_lattice.proofs.grow_set.GrowSetLattice.leq.Goals as goal

pub returns : goal.returns
returns g c =
    let below = below_from g.met.V.Ord.total c.args.self.now c.args.other.now in
    ((λ h. below.0 (c.is_within.ensures.0 h)), λ h. c.is_within.ensures.1 (below.1 h))
