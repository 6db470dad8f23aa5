use Rattle.std.proofs.Common.{◌≡◌, length, All}
use Rattle.lvish_deal.specs.Deals.{IsNew}
use Rattle.lvish_deal.proofs.dealing.owners.Given as goal

abbrev pub invariant-loop : goal.invariant-loop
invariant-loop g l = (length l.all.items ≡ l.counter) × All (IsNew 9) l.all.items
