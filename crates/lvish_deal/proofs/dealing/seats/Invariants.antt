use Rattle.std.proofs.Common.{◌≡◌, ◌-◌, ◌≤◌, length, take, All}
use Rattle.lvish_deal.specs.Deals.{IsNew, AreNewRows, deques}
use Rattle.lvish_deal.specs.Place.{AreFreshFrom}
use Rattle.lvish_deal.proofs.dealing.seats.Given as goal

abbrev pub invariant-loop-own : goal.invariant-loop-own
invariant-loop-own g l = record {
  few : length l.owners.items ≤ length l.fn.owners.items;
  names : deques l.owners.items ≡ take (length l.owners.items) (deques l.fn.owners.items);
  new : All (IsNew (10 - length l.fn.owners.items)) l.owners.items;
  count : length l.rows.items ≡ length l.owners.items;
  rows : AreNewRows (deques l.fn.owners.items) l.rows.items;
  made : AreFreshFrom (deques l.fn.owners.items) (length l.owners.items) l.seats.items;
}

abbrev pub decreases-loop-own : goal.decreases-loop-own
decreases-loop-own g l = length l.owners.items
