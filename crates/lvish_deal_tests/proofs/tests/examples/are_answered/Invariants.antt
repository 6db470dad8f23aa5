use Rattle.lvish_deal.specs.Place.{IsWholeDeal}
use Rattle.lvish_deal_tests.proofs.tests.examples.are_answered.Given as goal

abbrev pub invariant-loop-call : goal.invariant-loop-call
invariant-loop-call l = IsWholeDeal l.seats.items
