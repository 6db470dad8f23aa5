use Rattle.std.proofs.Common.{◌∙◌, sym}
use Rattle.lvish_syntax.specs.Words.{is_name_byte}
use Rattle.lvish_checks.proofs.Tested.{all_more, all_fail, all_pass}
use Rattle.lvish_checks.proofs.word.has_name_bytes.Goals as goal

pub returns-then-not-is_name_byte : goal.returns-then-not-is_name_byte
returns-then-not-is_name_byte c = all_fail is_name_byte c.args.word.now c.loop-b.b-index _ c.loop-b-test.true (sym c.is_name_byte.ensures ∙ c.if-not-is_name_byte.true) c.loop-b.invariant

pub loop-b-preserved : goal.loop-b-preserved
loop-b-preserved c = all_more is_name_byte c.args.word.now c.loop-b.b-index _ c.loop-b-test.true (sym c.is_name_byte.ensures ∙ c.if-not-is_name_byte.false) c.loop-b.invariant

pub returns : goal.returns
returns c = all_pass is_name_byte c.args.word.now c.loop-b.b-index c.loop-b-test.false c.loop-b.invariant
