use Rattle.std.proofs.Common.{◌∙◌, ap, map, take_all}
use Rattle.lvish_syntax.specs.Words.{is_name}
use Rattle.lvish_checks.proofs.Loops.{all_at, push_more}
use Rattle.lvish_checks.proofs.form.declaration.names_of.Goals as goal

pub new-requires : goal.new-requires
new-requires c = all_at (λ w. w.now) is_name c.args.words.now c.loop-word.word-index _ c.requires c.loop-word-test.true

pub loop-word-preserved : goal.loop-word-preserved
loop-word-preserved c = rw c.in_ok-push.ensures.items (push_more (λ w. w.now) c.loop-word.names.items c.new.result c.args.words.now c.loop-word.word-index _ c.loop-word-test.true c.new.ensures c.loop-word.invariant)

pub returns : goal.returns
returns c = c.from.ensures ∙ c.loop-word.invariant ∙ ap (map (λ w. w.now)) (take_all c.loop-word.word-index c.args.words.now c.loop-word-test.false)
