use Rattle.std.proofs.Common.{◌∙◌, sym}
use Rattle.lvish_checks.proofs.Lines.{passed_on, fails_at, passes_all}
use Rattle.lvish_checks.proofs.check.wrong_kind.first_wrong_kind.Goals as goal

pub returns-then-misfits : goal.returns-then-misfits
returns-then-misfits c = fails_at _ _ c.loop-k.k c.index-lines-k.result c.loop-k-test.true c.index-lines-k.is c.loop-k.invariant (sym (c.misfits.ensures c.args.lines.now c.in_ok-kinds.ensures.variables c.in_ok-kinds.ensures.pools) ∙ c.if-misfits.true)

pub loop-k-preserved : goal.loop-k-preserved
loop-k-preserved c = passed_on _ _ c.loop-k.k c.index-lines-k.result c.loop-k-test.true c.index-lines-k.is c.loop-k.invariant (sym (c.misfits.ensures c.args.lines.now c.in_ok-kinds.ensures.variables c.in_ok-kinds.ensures.pools) ∙ c.if-misfits.false)

pub returns : goal.returns
returns c = passes_all _ _ c.loop-k.k c.loop-k-test.false c.loop-k.invariant
