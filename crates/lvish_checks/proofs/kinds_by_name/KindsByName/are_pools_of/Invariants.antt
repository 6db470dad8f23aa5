use Rattle.std.proofs.Common.{◌≡◌, drop, List}
use Rattle.std.specs.List.{list_all}
use Rattle.lvish_syntax.specs.Sound.{is_pool_of}
use Rattle.lvish_syntax.specs.declared.declaration.Declaration.{Declaration}
use Rattle.lvish_checks.specs.Known.{AreOfPools}
use Rattle.lvish_checks.proofs.kinds_by_name.KindsByName.are_pools_of.Given as goal

abbrev pub invariant-loop-pool : goal.invariant-loop-pool
invariant-loop-pool l = (ds : List Declaration) → AreOfPools l.self.pools ds → list_all (is_pool_of ds l.variable) (drop l.pool-index l.pools) ≡ list_all (is_pool_of ds l.variable) l.pools
