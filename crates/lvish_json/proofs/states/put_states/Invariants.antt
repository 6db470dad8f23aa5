use Rattle.std.proofs.Common.{◌≤◌}
use Rattle.json.specs.Json.{array}
use Rattle.json.specs.Tree.{json_tokens}
use Rattle.lvish_report.specs.Text.{variables_of}
use Rattle.lvish_json.specs.Shape.{items_of}
use Rattle.lvish_json.specs.Report.{state_values}
use Rattle.lvish_json.proofs.Adding.{Leads}
use Rattle.lvish_json.proofs.StatesLeft.{left_states}
use Rattle.lvish_json.proofs.states.put_states.Given as goal

abbrev pub invariant-loop-i : goal.invariant-loop-i
invariant-loop-i l = record {
  few : l.place ≤ l.i;
  text : Leads l.fn.text l.text (left_states l.declarations l.i l.states l.place) (json_tokens (array (items_of (state_values (variables_of l.declarations) l.states))));
}
