use Rattle.lvish_compound.proofs.Maps.{merged_result, merge_refused}
use Rattle.lvish_compound.proofs.map_of.MapOfLattice.merge.Goals as goal

pub returns-in-Some-clause-merged : goal.returns-in-Some-clause-merged
returns-in-Some-clause-merged g c = merged_result c.args.self.now c.args.put.now _ c.add.result _ _ c.in-Some.ensures c.add.ensures.added

pub returns-in-Some-clause-refused : goal.returns-in-Some-clause-refused
returns-in-Some-clause-refused g c = merge_refused c.args.self.now c.args.put.now _ c.add.result c.add.ensures.refused
