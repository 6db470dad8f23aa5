use Rattle.lvish_compound.proofs.Maps.{stays_ascending, stays_above}
use Rattle.lvish_compound.proofs.entries.Entries.add.Goals as goal

pub returns-clause-ascending : goal.returns-clause-ascending
returns-clause-ascending g c =
    stays_ascending g.K.Ord.cmp g.L.Lattice.least g.L.Lattice.joined g.met.K.Ord.total g.met.L.Lattice.is_join c.args.of c.args.part.now c.args.self.now c.join_at.new.self c.join_at.result c.join_at.ensures.added c.join_at.ensures.refused c.requires.ascending

pub returns-clause-above : goal.returns-clause-above
returns-clause-above g c =
    stays_above g.K.Ord.cmp g.L.Lattice.least g.L.Lattice.joined g.met.K.Ord.total g.met.L.Lattice.is_join c.args.of c.args.part.now c.args.self.now c.join_at.new.self c.join_at.result c.join_at.ensures.added c.join_at.ensures.refused
    g.L.PartialEq.eq g.met.L.Eq.laws.refl g.met.L.Lattice.identical c.requires.part c.requires.above
