use Rattle.std.proofs.Common.{◌≡◌, map, take}
use Rattle.lvish_task.specs.Run.{operand_value}
use Rattle.lvish_task.proofs.evaluate.values_of.Given as goal

abbrev pub invariant-loop-operand : goal.invariant-loop-operand
invariant-loop-operand l = l.found ≡ map (operand_value l.values) (take l.operand-index l.operands)
