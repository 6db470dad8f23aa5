use Rattle.std.proofs.Common.{◌≡◌, ◌≤◌, ℕ, false}
use Rattle.lvish_checks.specs.declared.fault.Fault.TheVariants.{Compatible}
use Rattle.lvish_checks.specs.Checks.{on_line, line_fails}
use Rattle.lvish_checks.proofs.check.compatible.first_compatible.Given as goal

abbrev pub invariant-loop-k : goal.invariant-loop-k
invariant-loop-k l = (m : ℕ) → m ≤ l.k → on_line (line_fails Compatible l.lines) l.lines m ≡ false
