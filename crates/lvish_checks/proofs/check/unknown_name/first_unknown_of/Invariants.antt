use Rattle.std.proofs.Common.{◌≡◌, ◌≤◌, ℕ, false, take}
use Rattle.lvish_checks.specs.declared.fault.Fault.TheVariants.{UnknownName}
use Rattle.lvish_checks.specs.Checks.{on_line, line_fails, locals_at}
use Rattle.lvish_checks.specs.Known.{AreVariables, HaveSameNames}
use Rattle.lvish_checks.proofs.check.unknown_name.first_unknown_of.Given as goal

abbrev pub invariant-loop-k : goal.invariant-loop-k
invariant-loop-k l = record {
  above : AreVariables l.above (take l.k l.lines);
  locals : HaveSameNames l.locals (locals_at l.lines l.k);
  passed : (m : ℕ) → m ≤ l.k → on_line (line_fails UnknownName l.lines) l.lines m ≡ false;
}
