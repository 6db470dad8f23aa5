use Rattle.std.proofs.Common.{◌∙◌, sym}
use Rattle.std.proofs.lemmas.List.Folds.{list_all-map}
use Rattle.lvish_syntax.specs.Words.{is_name}
use Rattle.lvish_checks.proofs.Tested.{all_more, all_fail, all_pass}
use Rattle.lvish_checks.proofs.form.declaration.are_names.Goals as goal

pub returns-then-not-is_name : goal.returns-then-not-is_name
returns-then-not-is_name c = all_fail (λ w. is_name w.now) c.args.words.now c.loop-word.word-index _ c.loop-word-test.true (sym c.is_name.ensures ∙ c.if-not-is_name.true) c.loop-word.invariant ∙ sym (list_all-map is_name (λ w. w.now) c.args.words.now)

pub loop-word-preserved : goal.loop-word-preserved
loop-word-preserved c = all_more (λ w. is_name w.now) c.args.words.now c.loop-word.word-index _ c.loop-word-test.true (sym c.is_name.ensures ∙ c.if-not-is_name.false) c.loop-word.invariant

pub returns : goal.returns
returns c = all_pass (λ w. is_name w.now) c.args.words.now c.loop-word.word-index c.loop-word-test.false c.loop-word.invariant ∙ sym (list_all-map is_name (λ w. w.now) c.args.words.now)
