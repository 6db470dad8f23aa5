use Rattle.std.proofs.Common.{◌≡◌, ◌≤◌, ◌+◌, map, take, length, vec_len, vec_capacity}
use Rattle.lvish_compound.specs.EventNames.{entry_event}
use Rattle.lvish_compound.proofs.any_events.entry_events.Given as goal

abbrev pub invariant-loop-key : goal.invariant-loop-key
invariant-loop-key l = record {
  items : l.named.items ≡ map entry_event (take l.key-index l.events);
  room : vec_len l.named + length l.events ≤ vec_capacity l.named + l.key-index;
}
