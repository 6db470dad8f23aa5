use Rattle.std.proofs.Common.{◌≡◌, ◌≤◌, ◌+◌, map, take, length, vec_len, vec_capacity}
use Rattle.lvish_compound.specs.EventNames.{side_event}
use Rattle.lvish_compound.proofs.any_events.side_events.Given as goal

abbrev pub invariant-loop-event : goal.invariant-loop-event
invariant-loop-event l = record {
  items : l.named.items ≡ map side_event (take l.event-index l.events);
  room : vec_len l.named + length l.events ≤ vec_capacity l.named + l.event-index;
}
