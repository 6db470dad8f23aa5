use Rattle.lvish_lattice.specs.Ascending.{ties_are_same}
use Rattle.lvish_compound.specs.laws.MapLaws.{keys_checked}
use Rattle.lvish_compound.proofs.map_reads.MapOfReads.check.Goals as goal

pub returns : goal.returns
returns g c =
    let w = keys_checked g.met.K.Ord.total (ties_are_same g.K.Ord.cmp g.met.K.Plain.identical g.met.K.Ord.matches_eq) g.met.L.Lattice.is_join g.met.L.Eq.laws.refl g.met.L.Lattice.identical g.L.Reads.member c.args.read.now in
    (λ h. w.0 (c.check.ensures.0 h), λ h. c.check.ensures.1 (w.1 h))
