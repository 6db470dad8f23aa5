use Rattle.std.proofs.Common.{◌≡◌, take}
use Rattle.lvish_code.specs.Compile.{pool_variables}
use Rattle.lvish_code.proofs.tables.pool_variables.Given as goal

abbrev pub invariant-loop-declaration : goal.invariant-loop-declaration
invariant-loop-declaration l = l.pools.items ≡ pool_variables l.variables (take l.declaration-index l.declarations)
