use Rattle.std.proofs.Common.{◌≡◌, ◌≤◌, ◌∙◌, Some, refl, sym, arith}
use Rattle.std.proofs.lemmas.Bool.{both_ways}
use Rattle.std.proofs.lemmas.Option.{slice_get_read}
use Rattle.lvish_alike.specs.Sought.{instruction_calls}
use Rattle.lvish_alike.proofs.Spared.{option_is, is_option_of, all_more, all_all}
use Rattle.lvish_alike.proofs.freezes.is_called_from.Goals as goal

pub loop-other-init : goal.loop-other-init
loop-other-init c = λ j n lt at le. omega (arith, lt, le)

pub returns-then-eq : goal.returns-then-eq
returns-then-eq c =
    let calls = sym c.linked_by.ensures ∙ option_is _ c.args.routine (sym c.eq.ensures ∙ c.if-eq.true) in
    let at = slice_get_read c.args.own.now _ c.loop-other.other _ refl c.loop-other-test.true c.index-own-other.is in
    ((λ t. (c.loop-other.other, c.index-own-other.result, c.loop-other.auto.other, at, calls)), (λ called. refl))

pub loop-other-preserved : goal.loop-other-preserved
loop-other-preserved c =
    all_more (λ j n. c.args.place ≤ j → instruction_calls n ≡ Some c.args.routine → ⊥) c.args.own.now c.loop-other.other _ c.loop-other-test.true c.index-own-other.is c.loop-other.invariant
    (λ le calls. both_ways _ (sym c.eq.ensures ∙ c.if-eq.false) (is_option_of _ c.args.routine (c.linked_by.ensures ∙ calls)))

pub returns : goal.returns
returns c = (
  (λ t. absurd (cc t)),
  (λ called. absurd (all_all (λ j n. c.args.place ≤ j → instruction_calls n ≡ Some c.args.routine → ⊥) c.args.own.now c.loop-other.other c.loop-other-test.false c.loop-other.invariant called.0 called.1 called.3 called.2 called.4)),
)
