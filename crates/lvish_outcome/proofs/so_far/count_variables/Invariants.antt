use Rattle.std.proofs.Common.{◌≡◌, ◌+◌, ◌≤◌, drop, length}
use Rattle.lvish_report.specs.Text.{variables_of}
use Rattle.lvish_outcome.proofs.so_far.count_variables.Given as goal

abbrev pub invariant-loop-i : goal.invariant-loop-i
invariant-loop-i l = (l.count ≤ l.i) × (l.count + length (variables_of (drop l.i l.declarations)) ≡ length (variables_of l.declarations))
