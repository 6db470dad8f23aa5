use Rattle.lvish_compound.specs.laws.Embedded.{checks_one, checks_two}
use Rattle.lvish_compound.proofs.pair.PairReads.check.Goals as goal

pub returns-in-One : goal.returns-in-One
returns-in-One g c = checks_one g.met.A.Lattice.is_join g.met.B.Lattice.is_join g.A.Reads.member g.B.Reads.member _ _ _ c.in-One.is c.check.ensures

pub returns-in-Two : goal.returns-in-Two
returns-in-Two g c = checks_two g.met.A.Lattice.is_join g.met.B.Lattice.is_join g.A.Reads.member g.B.Reads.member _ _ _ c.in-Two.is c.check-in-Two.ensures
