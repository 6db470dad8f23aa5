use Rattle.std.proofs.Common.{sym, ◌∙◌, arith}
use Rattle.lvish_retrace.proofs.Placing.{found_at, not_at, nowhere}
use Rattle.lvish_retrace.proofs.bringer.put_of.Goals as goal

pub loop-place-init : goal.loop-place-init
loop-place-init g c = λ j b less at. omega (arith, less)

pub returns-then-is_of : goal.returns-then-is_of
returns-then-is_of g c = found_at g.E.PartialEq.eq c.args.brought.now c.args.variable c.args.event.now c.loop-place.place c.index-brought-place.result c.loop-place-test.true c.index-brought-place.is g.met.E.Plain.identical (sym c.is_of.ensures ∙ c.if-is_of.true)

pub loop-place-preserved : goal.loop-place-preserved
loop-place-preserved g c = not_at g.E.PartialEq.eq c.args.brought.now c.args.variable c.args.event.now c.loop-place.place c.index-brought-place.result c.loop-place-test.true c.index-brought-place.is g.met.E.Eq.laws.refl (sym c.is_of.ensures ∙ c.if-is_of.false) c.loop-place.invariant

pub returns : goal.returns
returns g c = nowhere g.E.PartialEq.eq c.args.brought.now c.args.variable c.args.event.now c.loop-place.place (let over = c.loop-place-test.false in omega (arith, over)) c.loop-place.invariant
