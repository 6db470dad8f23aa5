use Rattle.std.proofs.Common.{◌≡◌, take}
use Rattle.lvish_code.specs.Compile.{variable_kinds}
use Rattle.lvish_code.proofs.tables.kinds_of.Given as goal

abbrev pub invariant-loop-declaration : goal.invariant-loop-declaration
invariant-loop-declaration l = l.kinds.items ≡ variable_kinds (take l.declaration-index l.declarations)
