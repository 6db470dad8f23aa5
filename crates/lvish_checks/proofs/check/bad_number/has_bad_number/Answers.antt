use Rattle.std.proofs.Common.{◌∙◌, sym}
use Rattle.lvish_checks.proofs.Loops.{any_now}
use Rattle.lvish_checks.specs.Form.{is_bad_number}
use Rattle.lvish_checks.proofs.Tested.{any_more, any_passes, none_passes}
use Rattle.lvish_checks.proofs.check.bad_number.has_bad_number.Goals as goal

pub returns-then-is_bad_number : goal.returns-then-is_bad_number
returns-then-is_bad_number c = any_passes (λ w. is_bad_number w.now) c.args.words.now c.loop-word.word-index _ c.loop-word-test.true (sym c.is_bad_number.ensures ∙ c.if-is_bad_number.true) c.loop-word.invariant ∙ sym (any_now is_bad_number c.args.words.now)

pub loop-word-preserved : goal.loop-word-preserved
loop-word-preserved c = any_more (λ w. is_bad_number w.now) c.args.words.now c.loop-word.word-index _ c.loop-word-test.true (sym c.is_bad_number.ensures ∙ c.if-is_bad_number.false) c.loop-word.invariant

pub returns : goal.returns
returns c = none_passes (λ w. is_bad_number w.now) c.args.words.now c.loop-word.word-index c.loop-word-test.false c.loop-word.invariant ∙ sym (any_now is_bad_number c.args.words.now)
