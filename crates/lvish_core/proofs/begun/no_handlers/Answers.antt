use Rattle.lvish_core.proofs.Repeats.{repeated_more, repeated_all}
use Rattle.lvish_core.proofs.begun.no_handlers.Goals as goal

pub loop-variable-preserved : goal.loop-variable-preserved
loop-variable-preserved g c = repeated_more c.loop-variable._variable _ c.in_ok-new.field-0 c.loop-variable.handlers.items _ c.loop-variable.invariant c.in_ok-new.ensures c.in_ok-push.ensures.items

pub returns : goal.returns
returns g c = repeated_all c.loop-variable._variable c.args.count _ c.loop-variable.handlers.items c.loop-variable.invariant c.loop-variable-test.false c.loop-variable.auto._variable-end
