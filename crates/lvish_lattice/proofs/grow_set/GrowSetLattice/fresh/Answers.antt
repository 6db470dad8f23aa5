use Rattle.lvish_lattice.specs.Ascending.{ties_are_same}
use Rattle.lvish_lattice.specs.GrowSet.{set_fresh}
use Rattle.lvish_lattice.proofs.grow_set.GrowSetLattice.fresh.Goals as goal

pub returns : goal.returns
returns g c =
    let v = g.met.V in
    rw (set_fresh v.Ord.total g.V.PartialEq.eq v.Ord.matches_eq (ties_are_same g.V.Ord.cmp v.Plain.identical v.Ord.matches_eq) c.args.old.now c.args.put.now) c.beyond.ensures
