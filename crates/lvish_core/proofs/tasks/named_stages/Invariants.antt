use Rattle.std.proofs.Common.{◌≡◌, length, take}
use Rattle.std.specs.List.{zip}
use Rattle.lvish_core.specs.Tasks.{entries_at}
use Rattle.lvish_core.proofs.tasks.named_stages.Given as goal

abbrev pub invariant-loop-name : goal.invariant-loop-name
invariant-loop-name g l = entries_at l.named.items ≡ take (length l.yielded) (zip l.fn.names l.fn.stages)
