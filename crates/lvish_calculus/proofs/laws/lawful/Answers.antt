use Rattle.lvish_calculus.proofs.FromTraits as traits
use Rattle.lvish_calculus.proofs.laws.lawful.Goals as goal

pub returns : goal.returns
returns g c = λ p. traits.lawful _ _ g.P.Lat.Event.Ord.cmp _ _ _ g.P.Lat.Reads.member _ (g.P.Program.functions p)
    g.met.P.Lat.Lattice.identical g.met.P.Lat.Eq.laws g.met.P.Lat.Event.Plain.identical g.met.P.Lat.Event.Eq.laws g.met.P.Lat.Event.Ord.total
    g.met.P.Lat.Lattice.is_join g.met.P.Lat.Lattice.has_events g.met.P.Lat.Reads.answers (g.met.P.Program.lawful p)
