use Rattle.lvish_picture.proofs.Ordered.{antisymmetric, ascending}
use Rattle.lvish_picture.proofs.laws.ordered.Goals as goal

pub returns : goal.returns
returns g c = λ p. record {
  antisymmetric = antisymmetric _ g.P.Lat.Event.Ord.cmp g.met.P.Lat.Event.Plain.identical g.met.P.Lat.Event.Ord.matches_eq g.met.P.Lat.Event.Ord.total;
  ascending = λ s. ascending _ g.P.Lat.Event.Ord.cmp g.met.P.Lat.Event.Plain.identical g.met.P.Lat.Event.Ord.matches_eq g.met.P.Lat.Event.Ord.total _ (g.met.P.Lat.Lattice.has_events.ascending s);
}
