use Rattle.std.proofs.Common.{◌∙◌}
use Rattle.lvish_syntax.proofs.Copied.{copied_more, copied_all}
use Rattle.lvish_syntax.proofs.identifier.Identifier.copy_all.Goals as goal

pub loop-name-preserved : goal.loop-name-preserved
loop-name-preserved c = copied_more _ c.loop-name.name-index _ c.name-item.result c.copy.result _ _ c.loop-name-test.true c.name-item.is c.copy.ensures c.loop-name.invariant c.in_ok-push.ensures.items

pub returns : goal.returns
returns c = c.from.ensures ∙ copied_all _ c.loop-name.name-index _ c.loop-name-test.false c.loop-name.invariant ∙ c.as_slice-name-items.ensures
