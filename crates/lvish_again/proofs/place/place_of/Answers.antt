use Rattle.std.proofs.Common.{sym, ◌∙◌, arith}
use Rattle.lvish_again.proofs.Places.{found_at, not_at, nowhere}
use Rattle.lvish_again.proofs.place.place_of.Goals as goal

pub loop-place-init : goal.loop-place-init
loop-place-init g c = λ j less at. omega (arith, less)

pub returns-then-are_one : goal.returns-then-are_one
returns-then-are_one g c = found_at g.E.PartialEq.eq c.args.labels.now c.args.label.now c.loop-place.place c.index-labels-place.result c.loop-place-test.true c.index-labels-place.is g.met.E.Plain.identical (sym c.are_one.ensures ∙ c.if-are_one.true)

pub loop-place-preserved : goal.loop-place-preserved
loop-place-preserved g c = not_at g.E.PartialEq.eq c.args.labels.now c.args.label.now c.loop-place.place c.index-labels-place.result c.loop-place-test.true c.index-labels-place.is g.met.E.Eq.laws.refl (sym c.are_one.ensures ∙ c.if-are_one.false) c.loop-place.invariant

pub returns : goal.returns
returns g c = nowhere g.E.PartialEq.eq c.args.labels.now c.args.label.now c.loop-place.place (let over = c.loop-place-test.false in omega (arith, over)) c.loop-place.invariant
