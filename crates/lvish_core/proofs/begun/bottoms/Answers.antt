use Rattle.lvish_core.proofs.Repeats.{repeated_more, repeated_all}
use Rattle.lvish_core.proofs.begun.bottoms.Goals as goal

pub loop-variable-preserved : goal.loop-variable-preserved
loop-variable-preserved g c = repeated_more c.loop-variable._variable _ c.new.result c.loop-variable.variables.items _ c.loop-variable.invariant c.new.ensures c.in_ok-push.ensures.items

pub returns : goal.returns
returns g c = repeated_all c.loop-variable._variable c.args.count _ c.loop-variable.variables.items c.loop-variable.invariant c.loop-variable-test.false c.loop-variable.auto._variable-end
