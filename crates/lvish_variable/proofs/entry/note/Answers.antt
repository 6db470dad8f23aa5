use Rattle.std.proofs.Common.{◌++◌, ◌∙◌, ap}
use Rattle.lvish_variable.specs.Variable.{entries}
use Rattle.lvish_variable.proofs.Kept.{noted_more, noted_all}
use Rattle.lvish_variable.proofs.entry.note.Goals as goal

pub loop-event-preserved : goal.loop-event-preserved
loop-event-preserved g c = noted_more c.args.task.now c.args.number c.args.events.now c.loop-event.event-index _ c.loop-event.log.items _ _ _ c.loop-event.invariant c.loop-event-test.true c.event-item.is c.in_default.ensures.ok

pub returns-clause-ok : goal.returns-clause-ok
returns-clause-ok g c = noted_all c.args.task.now c.args.number c.args.events.now c.loop-event.event-index _ c.loop-event.log.items c.loop-event.invariant c.loop-event-test.false ∙ ap (λ items. items ++ entries c.args.task.now c.args.number c.args.events.now) c.reserve.ensures.items
