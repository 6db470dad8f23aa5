use Rattle.lvish_compound.proofs.Carried.{carried_merge}
use Rattle.lvish_compound.proofs.StateCalls.{maps_carried, pairs_carried, tallies_carried}
use Rattle.lvish_compound.proofs.any.AnyLattice.merge.Goals as goal

pub returns-in-Map-put-clause-merged : goal.returns-in-Map-put-clause-merged
returns-in-Map-put-clause-merged c = carried_merge maps_carried c.merge-in-Map-put.result _ _ _ _ _ c.in-Map.is c.in-Map-put.is c.merge-in-Map-put.ensures.merged

pub returns-in-Sides-put-clause-merged : goal.returns-in-Sides-put-clause-merged
returns-in-Sides-put-clause-merged c = carried_merge pairs_carried c.merge-in-Sides-put.result _ _ _ _ _ c.in-Sides.is c.in-Sides-put.is c.merge-in-Sides-put.ensures.merged

pub returns-in-Tally-put-clause-merged : goal.returns-in-Tally-put-clause-merged
returns-in-Tally-put-clause-merged c = carried_merge tallies_carried c.merge-in-Tally-put.result _ _ _ _ _ c.in-Tally.is c.in-Tally-put.is c.merge-in-Tally-put.ensures.merged
