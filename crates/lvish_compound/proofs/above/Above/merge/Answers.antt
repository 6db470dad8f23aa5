use Rattle.std.proofs.lemmas.Result.{IfErr-weaker}
use Rattle.lvish_compound.specs.laws.AboveLaws.{merged_above}
use Rattle.lvish_compound.specs.Above.{same_above}
use Rattle.lvish_compound.proofs.above.Above.merge.Goals as goal

pub invariant_of-self : goal.invariant_of-self
invariant_of-self g c = record { rises = merged_above g.met.L.Lattice.is_join g.L.PartialEq.eq g.met.L.Lattice.identical g.met.L.Eq.laws.refl c.merge.result _ _ _ _ c.args.self.now.rises c.merge.ensures.merged c.merge.ensures.refused }

pub returns-clause-refused : goal.returns-clause-refused
returns-clause-refused g c = IfErr-weaker c.merge.result _ _ (λ _ e. same_above _ _ e) c.merge.ensures.refused
