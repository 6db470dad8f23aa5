use Rattle.std.specs.Prelude.{refl}
use Rattle.lvish_compound.specs.States.{map_in, sides_in, tally_in}
use Rattle.lvish_compound.specs.laws.StateLaws.{OfMap, OfSides, OfTally, inside}
use Rattle.lvish_compound.proofs.Carried.{carried_leq}
use Rattle.lvish_compound.proofs.StateCalls.{maps_carried, pairs_carried, tallies_carried}
use Rattle.lvish_compound.proofs.any.AnyLattice.leq.Goals as goal

pub returns-in-Map-Map : goal.returns-in-Map-Map
returns-in-Map-Map c = carried_leq maps_carried map_in (inside OfMap) c.leq-in-Map-Map.result _ _ _ _ _ _ c.in-Map-Map.is-0 c.in-Map-Map.is-1 refl refl c.leq-in-Map-Map.ensures

pub returns-in-Sides-Sides : goal.returns-in-Sides-Sides
returns-in-Sides-Sides c = carried_leq pairs_carried sides_in (inside OfSides) c.leq-in-Sides-Sides.result _ _ _ _ _ _ c.in-Sides-Sides.is-0 c.in-Sides-Sides.is-1 c.pair.ensures c.pair-in-Sides-Sides.ensures c.leq-in-Sides-Sides.ensures

pub returns-in-Tally-Tally : goal.returns-in-Tally-Tally
returns-in-Tally-Tally c = carried_leq tallies_carried tally_in (inside OfTally) c.leq-in-Tally-Tally.result _ _ _ _ _ _ c.in-Tally-Tally.is-0 c.in-Tally-Tally.is-1 refl refl c.leq-in-Tally-Tally.ensures
