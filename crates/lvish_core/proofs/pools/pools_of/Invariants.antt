use Rattle.std.proofs.Common.{ℕ, ◌<◌, IsSome}
use Rattle.lvish_core.proofs.pools.pools_of.Given as goal

abbrev pub invariant-loop-pool : goal.invariant-loop-pool
invariant-loop-pool g l = (p : ℕ) → p < l.pool → IsSome ((g.P.Program.functions l.program).pool_variable p)
