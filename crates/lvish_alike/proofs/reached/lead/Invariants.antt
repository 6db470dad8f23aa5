use Rattle.lvish_alike.specs.Sought.{linked}
use Rattle.lvish_alike.proofs.Marks.{IsMarking}
use Rattle.lvish_alike.proofs.reached.lead.Given as goal

abbrev pub invariant-loop-round : goal.invariant-loop-round
invariant-loop-round l = IsMarking (linked l.link) l.routines l.initial.marks l.round l.marks
