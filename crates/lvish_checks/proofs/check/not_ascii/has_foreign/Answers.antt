use Rattle.std.proofs.Common.{◌∙◌, sym}
use Rattle.lvish_checks.specs.Text.{is_foreign}
use Rattle.lvish_checks.proofs.Tested.{any_more, any_passes, none_passes}
use Rattle.lvish_checks.proofs.check.not_ascii.has_foreign.Goals as goal

pub returns-then-is_foreign : goal.returns-then-is_foreign
returns-then-is_foreign c = any_passes is_foreign c.args.line.now c.loop-b.b-index _ c.loop-b-test.true (sym c.is_foreign.ensures ∙ c.if-is_foreign.true) c.loop-b.invariant

pub loop-b-preserved : goal.loop-b-preserved
loop-b-preserved c = any_more is_foreign c.args.line.now c.loop-b.b-index _ c.loop-b-test.true (sym c.is_foreign.ensures ∙ c.if-is_foreign.false) c.loop-b.invariant

pub returns : goal.returns
returns c = none_passes is_foreign c.args.line.now c.loop-b.b-index c.loop-b-test.false c.loop-b.invariant
