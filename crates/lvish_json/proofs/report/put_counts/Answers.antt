use Rattle.json.specs.Token.{begin_array}
use Rattle.lvish_json.specs.Shape.{count}
use Rattle.lvish_json.proofs.Adding.{left, leads_begin, all_written}
use Rattle.lvish_json.proofs.report.put_counts.Goals as goal

pub loop-number-init : goal.loop-number-init
loop-number-init c = leads_begin _ _ begin_array (left count c.args.counts.now) c.begin_array.ensures

pub returns : goal.returns
returns c = all_written count c.args.counts.now c.loop-number.number-index c.loop-number-test.false _ _ _ _ c.loop-number.invariant c.end_array.ensures
