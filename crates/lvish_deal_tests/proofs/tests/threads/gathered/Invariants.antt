use Rattle.std.proofs.Common.{length, map, ◌++◌}
use Rattle.lvish_deal.specs.Place.{IsWholeDeal}
use Rattle.lvish_deal_tests.proofs.tests.threads.gathered.Given as goal

abbrev pub invariant-loop-one : goal.invariant-loop-one
invariant-loop-one l = IsWholeDeal (map (λ d. d.0) l.done.items ++ l.seats.items)

abbrev pub decreases-loop-one : goal.decreases-loop-one
decreases-loop-one l = length l.done.items
