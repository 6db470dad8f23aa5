use Rattle.std.proofs.Common.{◌≡◌, take}
use Rattle.lvish_facts.specs.Names.{lines_with, names_in}
use Rattle.lvish_facts.proofs.sorting.lines_with.Given as goal

abbrev pub invariant-loop-name : goal.invariant-loop-name
invariant-loop-name l = l.text.items ≡ lines_with (names_in (take l.name-index l.names))
