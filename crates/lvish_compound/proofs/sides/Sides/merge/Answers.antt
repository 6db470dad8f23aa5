use Rattle.std.proofs.lemmas.Result.{IfErr-weaker}
use Rattle.lvish_compound.specs.laws.SidesLaws.{sides_merged}
use Rattle.lvish_compound.specs.laws.SidesLaws.{same_sides}
use Rattle.lvish_compound.proofs.sides.Sides.merge.Goals as goal

pub invariant_of-self : goal.invariant_of-self
invariant_of-self c = record { rises = sides_merged c.merge.result _ _ _ _ c.args.self.now.rises c.merge.ensures.merged c.merge.ensures.refused }

pub returns-clause-refused : goal.returns-clause-refused
returns-clause-refused c = IfErr-weaker c.merge.result _ _ (λ _ e. same_sides _ _ e) c.merge.ensures.refused
