use Rattle.std.proofs.Common.{◌≡◌, sum}
use Rattle.lvish_run.proofs.Counted.{counts_of}
use Rattle.lvish_run.proofs.count_by_worker.count_by_worker.Given as goal

abbrev pub invariant-loop-worker : goal.invariant-loop-worker
invariant-loop-worker l = record { are : l.by_worker.items ≡ counts_of l.noted l.worker; total : sum l.by_worker.items ≡ l.total }
