use Rattle.std.proofs.Common.{rules, ◌≡◌, ◌++◌, ◌∷◌, [], ◌∙◌, sym, ap, Some}
use mir.Syntax.{w64}
use mir.Val.{SFits}
use Rattle.std.proofs.lemmas.Int.{to_z-of_z}
use Rattle.lvish_checks.specs.Form.{number_word}
use Rattle.lvish_checks.proofs.Gathered.{values_begin, values_more, values_none, values_end}
use Rattle.lvish_checks.proofs.form.term.numbers_of.Goals as goal

pub loop-word-init : goal.loop-word-init
loop-word-init c = values_begin _ _ c.in_ok-numbers.ensures.items

pub loop-word-preserved : goal.loop-word-preserved
loop-word-preserved c =
    let fits : SFits w64 c.in-Some.number = search rules in
    let items : c.push.new.self.items ≡ c.loop-word.numbers.items ++ c.in-Some.number ∷ [] = c.in_ok-push-in-Some.ensures.items ∙ ap (λ z. c.loop-word.numbers.items ++ z ∷ []) (to_z-of_z w64 c.in-Some.number fits) in
    rw items (values_more number_word c.args.words.now c.loop-word.word-index c.loop-word.numbers.items _ _ c.in-Some.number c.loop-word-test.true (sym c.in-Some.is ∙ c.number_word.ensures) c.loop-word.invariant)

pub returns-in-None : goal.returns-in-None
returns-in-None c = values_none number_word c.args.words.now c.loop-word.word-index c.loop-word.numbers.items _ _ c.loop-word-test.true (sym c.in-None.is ∙ c.number_word.ensures) c.loop-word.invariant

pub returns : goal.returns
returns c = ap Some c.from.ensures ∙ values_end number_word c.args.words.now c.loop-word.word-index c.loop-word.numbers.items _ c.loop-word-test.false c.loop-word.invariant
