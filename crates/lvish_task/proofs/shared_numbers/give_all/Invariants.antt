use Rattle.std.proofs.Common.{◌≡◌, take}
use Rattle.lvish_task.specs.Changes.{changed}
use Rattle.lvish_task.proofs.shared_numbers.give_all.Given as goal

abbrev pub invariant-loop-change : goal.invariant-loop-change
invariant-loop-change l = l.numbers ≡ changed l.fn.numbers (take l.change-index l.changes)
