use Rattle.std.proofs.Common.{◌≡◌, ◌++◌, take}
use Rattle.lvish_compound.specs.Keyed.{of_key}
use Rattle.lvish_compound.proofs.keyed.push_events.Given as goal

abbrev pub invariant-loop-event : goal.invariant-loop-event
invariant-loop-event g l = l.events.items ≡ l.fn.events.items ++ of_key l.of (take l.event-index l.part)
