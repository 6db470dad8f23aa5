use Rattle.lvish_deal.specs.Place.{IsSameSeat}
use Rattle.lvish_deal_tests.proofs.tests.threads.work.Given as goal

abbrev pub invariant-loop : goal.invariant-loop
invariant-loop l = IsSameSeat l.initial.seat l.seat
