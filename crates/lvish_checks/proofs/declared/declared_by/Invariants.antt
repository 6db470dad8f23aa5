use Rattle.std.proofs.Common.{take}
use Rattle.lvish_checks.specs.Known.{AreVariables, ArePools, AreProcedures}
use Rattle.lvish_checks.proofs.declared.declared_by.Given as goal

abbrev pub invariant-loop-line : goal.invariant-loop-line
invariant-loop-line l = record {
  variables : AreVariables l.declared.variables (take l.line-index l.lines);
  pools : ArePools l.declared.pools (take l.line-index l.lines);
  procedures : AreProcedures l.declared.procedures (take l.line-index l.lines);
}
