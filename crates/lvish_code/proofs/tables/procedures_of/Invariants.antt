use Rattle.std.proofs.Common.{◌≡◌, take}
use Rattle.lvish_syntax.specs.Sound.{procedure_names}
use Rattle.lvish_code.specs.Numbering.{each_once}
use Rattle.lvish_code.proofs.tables.procedures_of.Given as goal

abbrev pub invariant-loop-procedure : goal.invariant-loop-procedure
invariant-loop-procedure l = l.names ≡ each_once (procedure_names (take l.procedure-index l.procedures))
