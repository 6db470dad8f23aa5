use Rattle.std.proofs.Common.{◌≡◌, take}
use Rattle.lvish_task.specs.Remaining.{alike}
use Rattle.lvish_task.proofs.remaining.Shared.of.Given as goal

abbrev pub invariant-loop-event : goal.invariant-loop-event
invariant-loop-event l = alike l.key l.kind l.numbers.items ≡ take l.event-index l.event-items
