use Rattle.std.proofs.Common.{◌∙◌, sym, ap}
use Rattle.lvish_syntax.specs.Name.{is_known}
use Rattle.lvish_checks.proofs.Tested.{all_more, all_fail, all_pass}
use Rattle.lvish_checks.proofs.check.unknown_name.are_known.Goals as goal

pub returns-then-not-is_known : goal.returns-then-not-is_known
returns-then-not-is_known c = λ names same. all_fail (is_known names) c.args.terms.now c.loop-term.term-index c.term-item.result c.loop-term-test.true (ap (is_known names) (sym c.term-item.is) ∙ sym (c.is_known.ensures names same) ∙ c.if-not-is_known.true) (c.loop-term.invariant names same)

pub loop-term-preserved : goal.loop-term-preserved
loop-term-preserved c = λ names same. all_more (is_known names) c.args.terms.now c.loop-term.term-index c.term-item.result c.loop-term-test.true (ap (is_known names) (sym c.term-item.is) ∙ sym (c.is_known.ensures names same) ∙ c.if-not-is_known.false) (c.loop-term.invariant names same)

pub returns : goal.returns
returns c = λ names same. all_pass (is_known names) c.args.terms.now c.loop-term.term-index c.loop-term-test.false (c.loop-term.invariant names same)
