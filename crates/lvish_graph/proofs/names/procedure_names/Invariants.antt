use Rattle.std.proofs.Common.{◌≡◌, take}
use Rattle.lvish_syntax.specs.Sound.{procedure_names}
use Rattle.lvish_graph.proofs.names.procedure_names.Given as goal

abbrev pub invariant-loop-procedure : goal.invariant-loop-procedure
invariant-loop-procedure l = l.names.items ≡ procedure_names (take l.procedure-index l.procedures)
