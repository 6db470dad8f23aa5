use Rattle.lvish_alike.specs.Sought.{linked}
use Rattle.lvish_alike.proofs.Adding.{added_begins, added_next, added_all}
use Rattle.lvish_alike.proofs.given.mark_linked.Goals as goal

pub loop-instruction-init : goal.loop-instruction-init
loop-instruction-init c = added_begins (linked c.args.link) c.args.instructions.now c.args.marks.now

pub loop-instruction-preserved : goal.loop-instruction-preserved
loop-instruction-preserved c =
    added_next (linked c.args.link) c.args.instructions.now c.args.marks.now c.loop-instruction.instruction-index c.instruction-item.result c.linked_by.result c.loop-instruction.marks c.mark.new.marks
    c.loop-instruction-test.true c.instruction-item.is c.linked_by.ensures c.loop-instruction.invariant c.mark.ensures

pub returns : goal.returns
returns c = added_all (linked c.args.link) c.args.instructions.now c.args.marks.now c.loop-instruction.instruction-index c.loop-instruction.marks c.loop-instruction-test.false c.loop-instruction.invariant
