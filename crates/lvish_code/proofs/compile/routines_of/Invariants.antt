use Rattle.std.proofs.Common.{◌≡◌, map, take}
use Rattle.lvish_code.specs.Compile.{local_names, routine_of}
use Rattle.lvish_code.specs.InScope.{names_with}
use Rattle.lvish_code.proofs.compile.routines_of.Given as goal

abbrev pub invariant-loop-procedure : goal.invariant-loop-procedure
invariant-loop-procedure l = l.routines.items ≡ map (λ p. routine_of (names_with l.tables (local_names p)) p) (take l.procedure-index l.procedures)
