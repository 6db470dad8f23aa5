use Rattle.std.proofs.Common.{drop}
use Rattle.json.specs.Tree.{json_tokens}
use Rattle.lvish_report.specs.Text.{variables_of}
use Rattle.lvish_json.specs.Shape.{each}
use Rattle.lvish_json.specs.Report.{name_value}
use Rattle.lvish_json.proofs.Adding.{Leads, left}
use Rattle.lvish_json.proofs.names.put_names.Given as goal

abbrev pub invariant-loop-variable : goal.invariant-loop-variable
invariant-loop-variable l = let show = name_value (variables_of l.declarations) in Leads l.fn.text l.text (left show (drop l.variable-index l.variables)) (json_tokens (each show l.variables))
