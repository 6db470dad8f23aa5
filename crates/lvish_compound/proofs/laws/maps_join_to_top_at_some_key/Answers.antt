use Rattle.lvish_lattice.specs.Ascending.{ties_are_same}
use Rattle.lvish_compound.proofs.Clashes.{maps_top}
use Rattle.lvish_compound.proofs.laws.maps_join_to_top_at_some_key.Goals as goal

pub returns : goal.returns
returns g c = let k = g.met.K in maps_top k.Ord.total (ties_are_same g.K.Ord.cmp k.Plain.identical k.Ord.matches_eq) g.met.L.Lattice.is_join g.met.L.Eq.laws.refl g.met.L.Lattice.identical
