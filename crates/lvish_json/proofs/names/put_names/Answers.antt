use Rattle.json.specs.Token.{begin_array}
use Rattle.lvish_report.specs.Text.{variables_of}
use Rattle.lvish_json.specs.Report.{name_value}
use Rattle.lvish_json.proofs.Adding.{left, leads_begin, all_written}
use Rattle.lvish_json.proofs.names.put_names.Goals as goal

pub loop-variable-init : goal.loop-variable-init
loop-variable-init c = leads_begin _ _ begin_array (left (name_value (variables_of c.args.declarations.now)) c.args.variables.now) c.begin_array.ensures

pub returns : goal.returns
returns c = all_written (name_value (variables_of c.args.declarations.now)) c.args.variables.now c.loop-variable.variable-index c.loop-variable-test.false _ _ _ _ c.loop-variable.invariant c.end_array.ensures
