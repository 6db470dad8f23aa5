use Rattle.lvish_deal.specs.Place.{IsSameSeat}
use Rattle.lvish_deal_tests.proofs.tests.threads.share.Given as goal

abbrev pub invariant-loop-item : goal.invariant-loop-item
invariant-loop-item l = IsSameSeat l.initial.seat l.seat
