use Rattle.std.proofs.Common.{◌≡◌, ◌≤◌, ◌+◌, ◌++◌, drop, length, string_bytes}
use Rattle.lvish_report.specs.Text.{variables_of, variable_lines}
use Rattle.lvish_report.proofs.text.variable_lines.Given as goal

abbrev pub invariant-loop-i : goal.invariant-loop-i
invariant-loop-i l = record {
  few : l.place ≤ l.i;
  long : length l.states ≡ l.place + length (variables_of (drop l.i l.declarations));
  text : string_bytes l.text ++ variable_lines l.all (variables_of (drop l.i l.declarations)) (drop l.place l.states) ≡ variable_lines l.all (variables_of l.declarations) l.states;
}
