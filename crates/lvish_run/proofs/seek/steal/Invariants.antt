use Rattle.lvish_deal.specs.Place.{IsSameSeat}
use Rattle.lvish_run.proofs.seek.steal.Given as goal

abbrev pub invariant-loop-from : goal.invariant-loop-from
invariant-loop-from g l = IsSameSeat l.fn.seat l.seat
