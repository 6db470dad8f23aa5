use Rattle.std.proofs.Common.{◌≡◌, take, map}
use Rattle.lvish_outcome.specs.Outcome.{count_of}
use Rattle.lvish_outcome.proofs.find_blocked.blocked_told.Given as goal

abbrev pub invariant-loop-counted : goal.invariant-loop-counted
invariant-loop-counted l = map count_of l.blocked.items ≡ take l.counted-index l.counts
