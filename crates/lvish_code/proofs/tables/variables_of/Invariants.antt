use Rattle.std.proofs.Common.{◌≡◌, take}
use Rattle.lvish_syntax.specs.Sound.{variable_names}
use Rattle.lvish_code.specs.Numbering.{each_once}
use Rattle.lvish_code.proofs.tables.variables_of.Given as goal

abbrev pub invariant-loop-declaration : goal.invariant-loop-declaration
invariant-loop-declaration l = l.variables ≡ each_once (variable_names (take l.declaration-index l.declarations))
