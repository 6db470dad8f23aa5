use Rattle.std.proofs.Common.{◌≡◌, ◌≤◌, ℕ, false, take, []}
use Rattle.lvish_checks.specs.declared.fault.Fault.TheVariants.{OpenBlock}
use Rattle.lvish_checks.specs.Checks.{on_line, line_fails, open_after}
use Rattle.lvish_checks.proofs.check.open_block.first_open_block.Given as goal

abbrev pub invariant-loop-k : goal.invariant-loop-k
invariant-loop-k l = record {
  opened : l.opened ≡ open_after [] (take l.k l.lines);
  passed : (m : ℕ) → m ≤ l.k → on_line (line_fails OpenBlock l.lines) l.lines m ≡ false;
}
