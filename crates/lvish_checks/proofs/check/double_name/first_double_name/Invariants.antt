use Rattle.std.proofs.Common.{◌≡◌, ◌≤◌, ℕ, false, take}
use Rattle.lvish_checks.specs.declared.fault.Fault.TheVariants.{DoubleName}
use Rattle.lvish_checks.specs.Checks.{on_line, line_fails}
use Rattle.lvish_checks.specs.Known.{AreVariables, ArePools, AreProcedures}
use Rattle.lvish_checks.proofs.check.double_name.first_double_name.Given as goal

abbrev pub invariant-loop-k : goal.invariant-loop-k
invariant-loop-k l = record {
  variables : AreVariables l.above.variables (take l.k l.lines);
  pools : ArePools l.above.pools (take l.k l.lines);
  procedures : AreProcedures l.above.procedures (take l.k l.lines);
  passed : (m : ℕ) → m ≤ l.k → on_line (line_fails DoubleName l.lines) l.lines m ≡ false;
}
