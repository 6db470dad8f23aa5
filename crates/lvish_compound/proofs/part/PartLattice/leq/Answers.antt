use Rattle.std.specs.Prelude.{refl}
use Rattle.lvish_compound.proofs.PartCalls.{sets_leq, maxes_leq}
use Rattle.lvish_compound.proofs.part.PartLattice.leq.Goals as goal

pub returns-in-Set-Set : goal.returns-in-Set-Set
returns-in-Set-Set c = sets_leq c.leq.result _ _ _ _ _ _ c.in-Set-Set.is-0 c.in-Set-Set.is-1 refl refl c.leq.ensures

pub returns-in-Max-Max : goal.returns-in-Max-Max
returns-in-Max-Max c = maxes_leq c.leq-in-Max-Max.result _ _ _ _ _ _ c.in-Max-Max.is-0 c.in-Max-Max.is-1 refl refl c.leq-in-Max-Max.ensures
