use Rattle.std.proofs.Common.{◌≡◌, take}
use Rattle.std.specs.Prelude.{filter}
use Rattle.std.specs.List.{list_any}
use Rattle.lvish_graph.specs.Deeds.{handles}
use Rattle.lvish_graph.proofs.told.handling.Given as goal

abbrev pub invariant-loop-procedure : goal.invariant-loop-procedure
invariant-loop-procedure l = l.told.items ≡ filter (λ n. list_any (handles l.pool n) l.deeds) (take l.procedure-index l.procedures)
