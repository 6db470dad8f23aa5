use Rattle.std.proofs.Common.{◌∙◌, sym, ap}
use Rattle.lvish_syntax.specs.Version.{is_term_in}
use Rattle.lvish_checks.proofs.Tested.{all_more, all_fail, all_pass}
use Rattle.lvish_checks.proofs.version.are_terms_in.Goals as goal

pub returns-then-not-is_term_in : goal.returns-then-not-is_term_in
returns-then-not-is_term_in c = all_fail (is_term_in c.args.version) c.args.terms.now c.loop-term.term-index c.term-item.result c.loop-term-test.true (ap (is_term_in c.args.version) (sym c.term-item.is) ∙ sym c.is_term_in.ensures ∙ c.if-not-is_term_in.true) c.loop-term.invariant

pub loop-term-preserved : goal.loop-term-preserved
loop-term-preserved c = all_more (is_term_in c.args.version) c.args.terms.now c.loop-term.term-index c.term-item.result c.loop-term-test.true (ap (is_term_in c.args.version) (sym c.term-item.is) ∙ sym c.is_term_in.ensures ∙ c.if-not-is_term_in.false) c.loop-term.invariant

pub returns : goal.returns
returns c = all_pass (is_term_in c.args.version) c.args.terms.now c.loop-term.term-index c.loop-term-test.false c.loop-term.invariant
