use Rattle.lvish_names.proofs.NameLaws.{same_name-iff, name_cmp-iff}
use Rattle.lvish_names.proofs.laws.task_names_identical.Goals as goal

pub returns-clause-eq : goal.returns-clause-eq
returns-clause-eq g c = same_name-iff g.met.E.Plain.identical g.met.E.Eq.laws.refl

pub returns-clause-cmp : goal.returns-clause-cmp
returns-clause-cmp g c = name_cmp-iff g.E.Ord.cmp g.met.E.Plain.identical g.met.E.Ord.matches_eq g.met.E.Ord.total
