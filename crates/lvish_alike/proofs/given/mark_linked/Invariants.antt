use Rattle.lvish_alike.specs.Sought.{linked}
use Rattle.lvish_alike.proofs.Adding.{AddedFrom}
use Rattle.lvish_alike.proofs.given.mark_linked.Given as goal

abbrev pub invariant-loop-instruction : goal.invariant-loop-instruction
invariant-loop-instruction l = AddedFrom (linked l.link) l.instructions l.initial.marks l.instruction-index l.marks
