use Rattle.std.proofs.Common.{sym, ◌∙◌, arith}
use Rattle.lvish_try.proofs.Places.{found_at, not_at, nowhere}
use Rattle.lvish_try.proofs.place.place_of.Goals as goal

pub loop-place-init : goal.loop-place-init
loop-place-init c = λ j less at. omega (arith, less)

pub returns-then-are_same : goal.returns-then-are_same
returns-then-are_same c = found_at c.args.texts.now c.args.text.now c.loop-place.place c.index-texts-place.result c.loop-place-test.true c.index-texts-place.is (rw c.as_slice.ensures at (sym c.are_same.ensures ∙ c.if-are_same.true))

pub loop-place-preserved : goal.loop-place-preserved
loop-place-preserved c = not_at c.args.texts.now c.args.text.now c.loop-place.place c.index-texts-place.result c.loop-place-test.true c.index-texts-place.is (rw c.as_slice.ensures at (sym c.are_same.ensures ∙ c.if-are_same.false)) c.loop-place.invariant

pub returns : goal.returns
returns c = nowhere c.args.texts.now c.args.text.now c.loop-place.place (let over = c.loop-place-test.false in omega (arith, over)) c.loop-place.invariant
