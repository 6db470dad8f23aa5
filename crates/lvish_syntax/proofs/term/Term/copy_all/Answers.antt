use Rattle.std.proofs.Common.{◌∙◌}
use Rattle.lvish_syntax.proofs.Copied.{copied_more, copied_all}
use Rattle.lvish_syntax.proofs.term.Term.copy_all.Goals as goal

pub loop-term-preserved : goal.loop-term-preserved
loop-term-preserved c = copied_more _ c.loop-term.term-index _ c.term-item.result c.copy.result _ _ c.loop-term-test.true c.term-item.is c.copy.ensures c.loop-term.invariant c.in_ok-push.ensures.items

pub returns : goal.returns
returns c = c.from.ensures ∙ copied_all _ c.loop-term.term-index _ c.loop-term-test.false c.loop-term.invariant ∙ c.as_slice-term-items.ensures
