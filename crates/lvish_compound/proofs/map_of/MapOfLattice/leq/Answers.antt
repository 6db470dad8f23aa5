use Rattle.lvish_lattice.specs.Ascending.{ties_are_same}
use Rattle.lvish_compound.specs.laws.MapLaws.{joined_by_places, joins_places}
use Rattle.lvish_compound.proofs.map_of.MapOfLattice.leq.Goals as goal

pub returns : goal.returns
returns g c =
    let a = c.args.self.now in
    let b = c.args.other.now in
    let l = g.met.L.Lattice in
    let same_key = ties_are_same g.K.Ord.cmp g.met.K.Plain.identical g.met.K.Ord.matches_eq in (
      (λ h. joined_by_places g.met.K.Ord.total same_key l.is_join g.met.L.Eq.laws.refl l.identical a b b (c.is_below.ensures.0 h)),
      λ h. c.is_below.ensures.1 (joins_places g.met.K.Ord.total same_key l.is_join g.met.L.Eq.laws.refl l.identical a b b h),
    )
