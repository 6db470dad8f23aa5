use Rattle.std.proofs.Common.{◌≡◌, drop, slice_get}
use Rattle.lvish_report.specs.Text.{variables_of}
use Rattle.lvish_json.proofs.names.name_at.Given as goal

abbrev pub invariant-loop-i : goal.invariant-loop-i
invariant-loop-i l = slice_get (variables_of l.declarations) l.fn.variable ≡ slice_get (variables_of (drop l.i l.declarations)) l.left
