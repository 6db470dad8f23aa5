use Rattle.std.proofs.Common.{◌≡◌, length}
use Rattle.lvish_deal.specs.Place.{IsWholeDeal}
use Rattle.lvish_deal_tests.proofs.tests.examples.push_below.Given as goal

abbrev pub invariant-loop-item : goal.invariant-loop-item
invariant-loop-item l = IsWholeDeal l.seats.items × (length l.seats.items ≡ length l.initial.seats.items)
