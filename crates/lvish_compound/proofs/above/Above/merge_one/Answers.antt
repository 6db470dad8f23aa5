use Rattle.std.specs.Prelude.{◌≡◌, false}
use Rattle.std.proofs.lemmas.Result.{IfErr-weaker}
use Rattle.lvish_compound.specs.laws.AboveLaws.{stays_above}
use Rattle.lvish_compound.specs.Above.{same_above}
use Rattle.lvish_compound.proofs.Outcomes.{result_either}
use Rattle.lvish_compound.proofs.above.Above.merge_one.Goals as goal

pub invariant_of-self : goal.invariant_of-self
invariant_of-self g c =
    let l = g.L.Lattice in
    let old = c.args.self.now in
    record {
      rises = result_either (λ s. g.L.PartialEq.eq s l.least ≡ false) (l.joined old.state c.args.put.now.state) _ old.state c.merge_one.new.self old.rises
          (λ s is. stays_above g.met.L.Lattice.is_join g.L.PartialEq.eq g.met.L.Lattice.identical g.met.L.Eq.laws.refl old.state c.args.put.now.state s is old.rises) c.merge_one.result c.merge_one.ensures.merged c.merge_one.ensures.refused;
    }

pub returns-clause-refused : goal.returns-clause-refused
returns-clause-refused g c = IfErr-weaker c.merge_one.result _ _ (λ _ e. same_above _ _ e) c.merge_one.ensures.refused
