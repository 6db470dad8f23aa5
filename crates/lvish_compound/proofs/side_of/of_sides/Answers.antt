use Rattle.std.proofs.Common.{[], map, ◌∙◌, sym, ap}
use Rattle.std.proofs.lemmas.List.{append-nil}
use Rattle.lvish_compound.specs.Pair.{of_one, of_two}
use Rattle.lvish_compound.proofs.Pushed.{pushed_more, pushed_all}
use Rattle.lvish_compound.proofs.side_of.of_sides.Goals as goal

pub loop-x-preserved : goal.loop-x-preserved
loop-x-preserved g c = pushed_more of_one c.args.ones.now c.loop-x.x-index [] _ c.loop-x.invariant c.x-item.result _ _ c.loop-x-test.true (ap of_one c.x-item.is) c.in_ok-push.ensures.items

pub loop-y-init : goal.loop-y-init
loop-y-init g c = pushed_all of_one c.args.ones.now c.loop-x.x-index [] _ c.loop-x.invariant c.loop-x-test.false ∙ sym (append-nil _)

pub loop-y-preserved : goal.loop-y-preserved
loop-y-preserved g c = pushed_more of_two c.args.twos.now c.loop-y.y-index (map of_one c.args.ones.now) _ c.loop-y.invariant c.y-item.result _ _ c.loop-y-test.true (ap of_two c.y-item.is) c.in_ok-push-2.ensures.items

pub returns : goal.returns
returns g c = pushed_all of_two c.args.twos.now c.loop-y.y-index (map of_one c.args.ones.now) _ c.loop-y.invariant c.loop-y-test.false
