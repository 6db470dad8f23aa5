use Rattle.std.proofs.Common.{◌≡◌, ◌≤◌, ℕ, false, take, []}
use Rattle.std.specs.Prelude.{count_by}
use Rattle.lvish_checks.specs.declared.fault.Fault.TheVariants.{TooMany}
use Rattle.lvish_checks.specs.Checks.{on_line, line_fails, is_variable, is_pool, is_procedure, open_after}
use Rattle.lvish_checks.proofs.check.too_many.first_too_many.Given as goal

abbrev pub invariant-loop-k : goal.invariant-loop-k
invariant-loop-k l = record {
  variables : l.tally.variables ≡ count_by is_variable (take l.k l.lines);
  pools : l.tally.pools ≡ count_by is_pool (take l.k l.lines);
  procedures : l.tally.procedures ≡ count_by is_procedure (take l.k l.lines);
  opened : l.tally.opened ≡ open_after [] (take l.k l.lines);
  few_variables : l.tally.variables ≤ l.k;
  few_pools : l.tally.pools ≤ l.k;
  few_procedures : l.tally.procedures ≤ l.k;
  passed : (m : ℕ) → m ≤ l.k → on_line (line_fails TooMany l.lines) l.lines m ≡ false;
}
