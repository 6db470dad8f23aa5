use Rattle.lvish_alike.specs.Sought.{instruction_writes}
use Rattle.lvish_alike.proofs.Adding.{AddedFrom}
use Rattle.lvish_alike.proofs.given.mark_written.Given as goal

abbrev pub invariant-loop-instruction : goal.invariant-loop-instruction
invariant-loop-instruction l = AddedFrom (instruction_writes l.pools) l.instructions l.initial.marks l.instruction-index l.marks
