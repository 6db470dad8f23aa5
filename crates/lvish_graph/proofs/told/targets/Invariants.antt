use Rattle.std.proofs.Common.{◌≡◌, take}
use Rattle.std.specs.Prelude.{filter}
use Rattle.std.specs.List.{list_any}
use Rattle.lvish_graph.specs.Deeds.{does}
use Rattle.lvish_graph.proofs.told.targets.Given as goal

abbrev pub invariant-loop-name : goal.invariant-loop-name
invariant-loop-name l = l.told.items ≡ filter (λ n. list_any (does l.verb n) l.deeds) (take l.name-index l.name-items)
