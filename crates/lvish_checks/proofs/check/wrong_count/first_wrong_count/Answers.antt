use Rattle.std.proofs.Common.{◌∙◌, sym}
use Rattle.lvish_checks.proofs.Lines.{passed_on, fails_at, passes_all}
use Rattle.lvish_checks.proofs.check.wrong_count.first_wrong_count.Goals as goal

pub returns-then-miscounts : goal.returns-then-miscounts
returns-then-miscounts c = fails_at _ _ c.loop-k.k c.index-lines-k.result c.loop-k-test.true c.index-lines-k.is c.loop-k.invariant (sym (c.miscounts.ensures c.args.lines.now c.in_ok-arities.ensures) ∙ c.if-miscounts.true)

pub loop-k-preserved : goal.loop-k-preserved
loop-k-preserved c = passed_on _ _ c.loop-k.k c.index-lines-k.result c.loop-k-test.true c.index-lines-k.is c.loop-k.invariant (sym (c.miscounts.ensures c.args.lines.now c.in_ok-arities.ensures) ∙ c.if-miscounts.false)

pub returns : goal.returns
returns c = passes_all _ _ c.loop-k.k c.loop-k-test.false c.loop-k.invariant
