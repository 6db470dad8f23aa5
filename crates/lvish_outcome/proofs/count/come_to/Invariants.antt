use Rattle.std.proofs.Common.{◌≡◌, ◌+◌, drop}
use Rattle.lvish_outcome.specs.Count.{sum}
use Rattle.lvish_outcome.proofs.count.come_to.Given as goal

abbrev pub invariant-loop-counted : goal.invariant-loop-counted
invariant-loop-counted l = l.fn.total + sum (drop l.counted-index l.counts) ≡ l.left + sum l.counts
