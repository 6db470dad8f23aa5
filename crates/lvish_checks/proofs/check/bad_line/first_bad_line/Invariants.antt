use Rattle.std.proofs.Common.{◌≡◌, ◌≤◌, ℕ, false, take}
use Rattle.std.specs.List.{list_any}
use Rattle.lvish_checks.specs.declared.fault.Fault.TheVariants.{BadLine}
use Rattle.lvish_checks.specs.Checks.{on_line, line_fails, is_procedure, is_told}
use Rattle.lvish_checks.proofs.check.bad_line.first_bad_line.Given as goal

abbrev pub invariant-loop-k : goal.invariant-loop-k
invariant-loop-k l = record {
  is_said : l.is_said ≡ list_any is_told (take l.k l.lines);
  begun : l.begun ≡ list_any is_procedure (take l.k l.lines);
  passed : (m : ℕ) → m ≤ l.k → on_line (line_fails BadLine l.lines) l.lines m ≡ false;
}
