use Rattle.std.proofs.Common.{◌≡◌, pos, take, slice_index_or}
use Rattle.lvish_task.specs.Changes.{changed}
use Rattle.lvish_task.proofs.shared_numbers.value_after.Given as goal

abbrev pub invariant-loop-change : goal.invariant-loop-change
invariant-loop-change l = l.value ≡ slice_index_or (changed l.numbers (take l.change-index l.changes)) l.local (pos 0)
