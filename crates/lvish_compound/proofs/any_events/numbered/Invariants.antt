use Rattle.std.proofs.Common.{◌≡◌, ◌≤◌, ◌+◌, map, take, length, vec_len, vec_capacity}
use Rattle.lvish_compound.specs.EventNames.{number_event}
use Rattle.lvish_compound.proofs.any_events.numbered.Given as goal

abbrev pub invariant-loop-number : goal.invariant-loop-number
invariant-loop-number l = record {
  items : l.named.items ≡ map (number_event l.kind) (take l.number-index l.numbers);
  room : vec_len l.named + length l.numbers ≤ vec_capacity l.named + l.number-index;
}
