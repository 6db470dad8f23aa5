use Rattle.std.proofs.Common.{◌≡◌, drop, List}
use Rattle.std.specs.List.{list_all}
use Rattle.lvish_checks.specs.declared.line.Line.{Line}
use Rattle.lvish_checks.specs.Checks.{has_pool}
use Rattle.lvish_checks.specs.Known.{ArePools}
use Rattle.lvish_checks.proofs.check.unknown_name.are_pools.Given as goal

abbrev pub invariant-loop-name : goal.invariant-loop-name
invariant-loop-name l = (lines : List Line) → ArePools l.declared.pools lines → list_all (λ p. has_pool p lines) (drop l.name-index l.names) ≡ list_all (λ p. has_pool p lines) l.names
