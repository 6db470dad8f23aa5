use Rattle.lvish_deal.specs.Place.{IsSameSeat}
use Rattle.std.proofs.Common.{◌≡◌, length}
use Rattle.lvish_deal_tests.proofs.tests.threads.next.Given as goal

abbrev pub invariant-loop-from : goal.invariant-loop-from
invariant-loop-from g l = IsSameSeat l.initial.seat l.seat × (l.from-end ≡ length l.seat.deal)
