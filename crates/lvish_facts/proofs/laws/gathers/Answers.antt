use Rattle.lvish_lattice.specs.Ascending.{ties_are_same}
use Rattle.lvish_facts.proofs.Gatherings.{gathered_contains}
use Rattle.lvish_facts.proofs.laws.gathers.Goals as goal

pub returns : goal.returns
returns g c = let v = g.met.V in gathered_contains _ _ v.Ord.total (ties_are_same g.V.Ord.cmp v.Plain.identical v.Ord.matches_eq)
