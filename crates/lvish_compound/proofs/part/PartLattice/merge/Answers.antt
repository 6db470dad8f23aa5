use Rattle.std.specs.Prelude.{refl}
use Rattle.lvish_compound.specs.declared.part.Part.TheVariants.{Empty, Set, Max}
use Rattle.lvish_compound.proofs.Carried.{carried_merge, held_carried}
use Rattle.lvish_compound.specs.Parts.{joined}
use Rattle.lvish_compound.proofs.part.PartLattice.merge.Goals as goal

pub returns-in-Set-put-clause-merged : goal.returns-in-Set-put-clause-merged
returns-in-Set-put-clause-merged c = carried_merge (held_carried Set Empty joined (λ x z. refl)) c.merge.result _ _ _ _ _ c.in-Set.is c.in-Set-put.is c.merge.ensures.merged

pub returns-in-Max-put-clause-merged : goal.returns-in-Max-put-clause-merged
returns-in-Max-put-clause-merged c = carried_merge (held_carried Max Empty joined (λ x z. refl)) c.merge-in-Max-put.result _ _ _ _ _ c.in-Max.is c.in-Max-put.is c.merge-in-Max-put.ensures.merged
