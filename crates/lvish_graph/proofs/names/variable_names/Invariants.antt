use Rattle.std.proofs.Common.{◌≡◌, take}
use Rattle.lvish_syntax.specs.Sound.{variable_names}
use Rattle.lvish_graph.proofs.names.variable_names.Given as goal

abbrev pub invariant-loop-declaration : goal.invariant-loop-declaration
invariant-loop-declaration l = l.names.items ≡ variable_names (take l.declaration-index l.declarations)
