use Rattle.std.proofs.Common.{◌≡◌, drop}
use Rattle.std.specs.List.{list_any}
use Rattle.lvish_graph.specs.Deeds.{does}
use Rattle.lvish_graph.proofs.told.any_does.Given as goal

abbrev pub invariant-loop-deed : goal.invariant-loop-deed
invariant-loop-deed l = list_any (does l.verb l.name) (drop l.deed-index l.deeds) ≡ list_any (does l.verb l.name) l.deeds
