use Rattle.std.proofs.Common.{◌∙◌, sym}
use Rattle.std.proofs.lemmas.Result.{IfOk-weaker}
use Rattle.lvish_lattice.specs.laws.MaxCounterLaws.{counters_fresh}
use Rattle.lvish_lattice.proofs.max_counter.MaxCounterLattice.fresh.Goals as goal

pub returns : goal.returns
returns c = IfOk-weaker c.between.result _ _ (λ v h. h ∙ sym (counters_fresh c.args.old.now c.args.put.now)) c.between.ensures
