use Rattle.std.proofs.Common.{◌≡◌, drop}
use Rattle.std.specs.List.{list_any}
use Rattle.lvish_graph.specs.Deeds.{handles}
use Rattle.lvish_graph.proofs.told.any_handles.Given as goal

abbrev pub invariant-loop-deed : goal.invariant-loop-deed
invariant-loop-deed l = list_any (handles l.pool l.procedure) (drop l.deed-index l.deeds) ≡ list_any (handles l.pool l.procedure) l.deeds
