use Rattle.std.proofs.Common.{◌∙◌, sym}
use Rattle.lvish_alike.specs.Sought.{found_in}
use Rattle.lvish_alike.proofs.Search.{none_more, first_here, none_left}
use Rattle.lvish_alike.proofs.sought.first_in.Goals as goal

pub returns-then-is_some : goal.returns-then-is_some
returns-then-is_some c = first_here (found_in c.args.marks.now c.args.sought) c.args.instructions.now c.loop-instruction.instruction-index c.instruction-item.result c.found_in-found.result c.loop-instruction-test.true c.instruction-item.is c.found_in-found.ensures (sym c.is_some.ensures ∙ c.if-is_some.true) c.loop-instruction.invariant

pub loop-instruction-preserved : goal.loop-instruction-preserved
loop-instruction-preserved c = none_more (found_in c.args.marks.now c.args.sought) c.args.instructions.now c.loop-instruction.instruction-index c.instruction-item.result c.found_in-found.result c.loop-instruction-test.true c.instruction-item.is c.found_in-found.ensures (sym c.is_some.ensures ∙ c.if-is_some.false) c.loop-instruction.invariant

pub returns : goal.returns
returns c = none_left (found_in c.args.marks.now c.args.sought) c.args.instructions.now c.loop-instruction.instruction-index c.loop-instruction-test.false c.loop-instruction.invariant
