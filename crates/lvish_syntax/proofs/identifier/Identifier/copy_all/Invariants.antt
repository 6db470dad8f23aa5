use Rattle.std.proofs.Common.{◌≡◌, take}
use Rattle.lvish_syntax.proofs.identifier.Identifier.copy_all.Given as goal

abbrev pub invariant-loop-name : goal.invariant-loop-name
invariant-loop-name l = l.items.items ≡ take l.name-index l.name-items
