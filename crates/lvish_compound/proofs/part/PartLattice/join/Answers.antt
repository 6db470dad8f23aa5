use Rattle.std.specs.Prelude.{refl}
use Rattle.lvish_compound.specs.declared.part.Part.TheVariants.{Empty, Max}
use Rattle.lvish_compound.proofs.Carried.{carried_join, held_carried}
use Rattle.lvish_compound.specs.Parts.{joined}
use Rattle.lvish_compound.proofs.part.PartLattice.join.Goals as goal

pub returns-in-Some-2 : goal.returns-in-Some-2
returns-in-Some-2 c = carried_join (held_carried Max Empty joined (λ x z. refl)) c.args.self.now c.args.other.now c.of_max.result _ _ _ _ c.in-Some-2.max c.in_ok-max-in-Max-Max.field-0 c.in-Max-Max.is-0 c.in-Max-Max.is-1 refl refl c.in_ok-max-in-Max-Max.ensures c.in-Some-2.is c.of_max.ensures
