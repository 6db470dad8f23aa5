use Rattle.std.proofs.Common.{◌∙◌, sym, ap, Some}
use Rattle.lvish_checks.specs.Form.{term_of}
use Rattle.lvish_checks.proofs.Gathered.{values_begin, values_more, values_none, values_end}
use Rattle.lvish_checks.proofs.form.term.terms_of.Goals as goal

pub loop-word-init : goal.loop-word-init
loop-word-init c = values_begin _ _ c.in_ok-terms.ensures.items

pub loop-word-preserved : goal.loop-word-preserved
loop-word-preserved c = rw c.in_ok-push-in-Some.ensures.items (values_more term_of c.args.words.now c.loop-word.word-index c.loop-word.terms.items _ _ c.in-Some.term c.loop-word-test.true (sym c.in-Some.is ∙ c.term_of.ensures) c.loop-word.invariant)

pub returns-in-None : goal.returns-in-None
returns-in-None c = values_none term_of c.args.words.now c.loop-word.word-index c.loop-word.terms.items _ _ c.loop-word-test.true (sym c.in-None.is ∙ c.term_of.ensures) c.loop-word.invariant

pub returns : goal.returns
returns c = ap Some c.from.ensures ∙ values_end term_of c.args.words.now c.loop-word.word-index c.loop-word.terms.items _ c.loop-word-test.false c.loop-word.invariant
