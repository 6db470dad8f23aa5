use Rattle.std.proofs.Common.{◌≡◌, ◌++◌, take}
use Rattle.lvish_variable.specs.Variable.{entries}
use Rattle.lvish_variable.proofs.entry.note.Given as goal

abbrev pub invariant-loop-event : goal.invariant-loop-event
invariant-loop-event g l = l.log.items ≡ l.initial.log.items ++ entries l.task l.number (take l.event-index l.events)
