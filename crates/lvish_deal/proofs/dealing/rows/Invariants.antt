use Rattle.std.proofs.Common.{◌≡◌, length}
use Rattle.lvish_deal.specs.Deals.{AreCut, AreNewRows, deques}
use Rattle.lvish_deal.proofs.dealing.rows.Given as goal

abbrev pub invariant-loop-i : goal.invariant-loop-i
invariant-loop-i g l = record {
  names : deques l.owners.items ≡ deques l.initial.owners.items;
  long : length l.owners.items ≡ length l.initial.owners.items;
  new : AreCut l.i l.owners.items;
  count : length l.rows.items ≡ l.i;
  rows : AreNewRows (deques l.initial.owners.items) l.rows.items;
}
