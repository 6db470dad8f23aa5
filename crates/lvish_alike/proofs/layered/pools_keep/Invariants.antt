use Rattle.lvish_alike.proofs.Written.{PoolsKeepBefore}
use Rattle.lvish_alike.proofs.layered.pools_keep.Given as goal

abbrev pub invariant-loop-pool : goal.invariant-loop-pool
invariant-loop-pool l = PoolsKeepBefore l.own l.pools l.main l.routines l.pool
