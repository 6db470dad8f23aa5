use Rattle.std.proofs.Common.{length}
use Rattle.lvish_alike.specs.Sought.{linked}
use Rattle.lvish_alike.proofs.Adding.{AreGivenBefore}
use Rattle.lvish_alike.proofs.given.linked_from.Given as goal

abbrev pub invariant-loop-place : goal.invariant-loop-place
invariant-loop-place l = AreGivenBefore (linked l.link) l.routines l.marks (length l.routines) l.place l.given.items
