use Rattle.std.proofs.Common.{◌≡◌, map, take}
use Rattle.lvish_code.specs.Numbering.{name_number}
use Rattle.lvish_code.specs.InScope.{names_in}
use Rattle.lvish_code.proofs.scope.Scope.pools.Given as goal

abbrev pub invariant-loop-name : goal.invariant-loop-name
invariant-loop-name l = l.pools.items ≡ map (name_number (names_in l.self).pools) (take l.name-index l.names)
