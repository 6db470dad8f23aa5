use Rattle.std.proofs.Common.{◌∙◌, arith}
use Rattle.std.proofs.lemmas.Result.{IfOk-weaker}
use Rattle.lvish_compound.proofs.Tallies.{tally_fresh, past_fresh}
use Rattle.lvish_compound.proofs.tally.TallyLattice.fresh.Goals as goal

pub returns-then-old-gain-gt-HIGHEST_TOTAL : goal.returns-then-old-gain-gt-HIGHEST_TOTAL
returns-then-old-gain-gt-HIGHEST_TOTAL c = c.new.ensures.items ∙ past_fresh _ c.args.old.now c.args.put.now (omega (arith, c.if-old-gain-gt-HIGHEST_TOTAL.true, c.gain.ensures.same))

pub returns : goal.returns
returns c = IfOk-weaker c.fresh.result _ _ (λ v e. e ∙ tally_fresh _ c.args.old.now c.args.put.now (omega (arith, c.if-old-gain-gt-HIGHEST_TOTAL.false, c.gain.ensures.same))) c.fresh.ensures
