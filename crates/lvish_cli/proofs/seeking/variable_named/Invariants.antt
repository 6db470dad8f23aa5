-- So many variables are declared before this line.
use Rattle.std.proofs.Common.{◌≡◌, ◌≤◌, length, take}
use Rattle.lvish_report.specs.Text.{variables_of}
use Rattle.lvish_cli.proofs.seeking.variable_named.Given as goal

abbrev pub invariant-loop-i : goal.invariant-loop-i
invariant-loop-i l = (l.variable ≡ length (variables_of (take l.i l.declarations))) × (l.variable ≤ l.i)
