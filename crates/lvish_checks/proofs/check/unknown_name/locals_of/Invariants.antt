use Rattle.std.proofs.Common.{take, drop, ◌++◌}
use Rattle.lvish_checks.specs.Known.{HaveSameNames}
use Rattle.lvish_checks.specs.Checks.{binds_until_procedure}
use Rattle.lvish_checks.proofs.Scans.{Gathers}
use Rattle.lvish_checks.proofs.check.unknown_name.locals_of.Given as goal

abbrev pub invariant-loop-name : goal.invariant-loop-name
invariant-loop-name l = HaveSameNames l.locals (take l.name-index l.parameters)

abbrev pub invariant-loop-line : goal.invariant-loop-line
invariant-loop-line l = Gathers l.locals (binds_until_procedure (drop l.line-index l.lines)) (l.fn.parameters ++ binds_until_procedure l.lines)
