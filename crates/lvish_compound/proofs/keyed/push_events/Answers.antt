use Rattle.std.proofs.Common.{ap}
use Rattle.lvish_compound.proofs.Pushed.{pushed_more, pushed_all}
use Rattle.lvish_compound.proofs.keyed.push_events.Goals as goal

pub loop-event-preserved : goal.loop-event-preserved
loop-event-preserved g c = pushed_more (λ x. (c.args.of, x)) c.args.part.now c.loop-event.event-index c.args.events.now.items _ c.loop-event.invariant c.event-item.result _ _ c.loop-event-test.true (ap (λ x. (c.args.of, x)) c.event-item.is) c.in_ok-push.ensures.items

pub returns : goal.returns
returns g c = pushed_all (λ x. (c.args.of, x)) c.args.part.now c.loop-event.event-index c.args.events.now.items _ c.loop-event.invariant c.loop-event-test.false
