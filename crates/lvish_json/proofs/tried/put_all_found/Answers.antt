use Rattle.json.specs.Token.{begin_array}
use Rattle.lvish_report.specs.Text.{variables_of}
use Rattle.lvish_json.specs.Tried.{found_value}
use Rattle.lvish_json.proofs.Adding.{left, leads_begin, place_written, all_written}
use Rattle.lvish_json.proofs.tried.put_all_found.Goals as goal

pub loop-found-init : goal.loop-found-init
loop-found-init c = leads_begin _ _ begin_array (left (found_value (variables_of c.args.script.now.declarations)) c.args.all.now) c.begin_array.ensures

pub loop-found-preserved : goal.loop-found-preserved
loop-found-preserved c = place_written (found_value (variables_of c.args.script.now.declarations)) c.args.all.now c.loop-found.found-index c.found-item.result c.loop-found-test.true c.found-item.is _ _ _ _ c.loop-found.invariant c.put_found.ensures

pub returns : goal.returns
returns c = all_written (found_value (variables_of c.args.script.now.declarations)) c.args.all.now c.loop-found.found-index c.loop-found-test.false _ _ _ _ c.loop-found.invariant c.end_array.ensures
