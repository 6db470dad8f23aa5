use Rattle.std.proofs.Common.{◌∙◌, sym}
use Rattle.lvish_checks.proofs.Lines.{passed_on, fails_at, passes_all}
use Rattle.lvish_checks.proofs.check.compatible.first_compatible.Goals as goal

pub returns-then-mixes : goal.returns-then-mixes
returns-then-mixes c = fails_at _ _ c.loop-k.k c.index-lines-k.result c.loop-k-test.true c.index-lines-k.is c.loop-k.invariant (sym (c.mixes.ensures c.args.lines.now c.in_ok-kinds.ensures.variables) ∙ c.if-mixes.true)

pub loop-k-preserved : goal.loop-k-preserved
loop-k-preserved c = passed_on _ _ c.loop-k.k c.index-lines-k.result c.loop-k-test.true c.index-lines-k.is c.loop-k.invariant (sym (c.mixes.ensures c.args.lines.now c.in_ok-kinds.ensures.variables) ∙ c.if-mixes.false)

pub returns : goal.returns
returns c = passes_all _ _ c.loop-k.k c.loop-k-test.false c.loop-k.invariant
