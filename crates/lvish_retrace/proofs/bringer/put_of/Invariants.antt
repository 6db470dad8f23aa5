use Rattle.lvish_retrace.proofs.Placing.{IsNotBefore}
use Rattle.lvish_retrace.proofs.bringer.put_of.Given as goal

abbrev pub invariant-loop-place : goal.invariant-loop-place
invariant-loop-place g l = IsNotBefore g.E.PartialEq.eq l.brought l.variable l.event l.place
