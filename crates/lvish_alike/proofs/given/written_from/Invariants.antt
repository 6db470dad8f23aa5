use Rattle.lvish_alike.specs.Sought.{instruction_writes}
use Rattle.lvish_alike.proofs.Adding.{AreGivenBefore}
use Rattle.lvish_alike.proofs.given.written_from.Given as goal

abbrev pub invariant-loop-place : goal.invariant-loop-place
invariant-loop-place l = AreGivenBefore (instruction_writes l.pools) l.routines l.marks (l.variables) l.place l.written.items
