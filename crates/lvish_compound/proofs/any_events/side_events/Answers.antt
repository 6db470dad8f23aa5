use Rattle.std.proofs.Common.{[], arith}
use Rattle.lvish_compound.specs.EventNames.{side_event}
use Rattle.lvish_compound.proofs.Pushed.{pushed_more, pushed_all}
use Rattle.lvish_compound.proofs.any_events.side_events.Goals as goal

pub loop-event-preserved : goal.loop-event-preserved
loop-event-preserved c = record {
  items = pushed_more side_event c.args.events.now c.loop-event.event-index [] _ c.loop-event.invariant.items _ _ _ c.loop-event-test.true c.side_event.ensures c.push_reserved.ensures.items;
  room = omega (arith, c.loop-event.invariant.room, c.push_reserved.ensures.len, c.push_reserved.ensures.capacity);
}

pub returns : goal.returns
returns c = pushed_all side_event c.args.events.now c.loop-event.event-index [] _ c.loop-event.invariant.items c.loop-event-test.false
