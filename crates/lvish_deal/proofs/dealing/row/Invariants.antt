use Rattle.std.proofs.Common.{◌≡◌, [], length, map, take}
use Rattle.lvish_deal.specs.Deals.{deques}
use Rattle.lvish_deal.specs.Reaches.{reach_deque, reach_got, HasParts}
use Rattle.lvish_deal.proofs.Deals.{Cut}
use Rattle.lvish_deal.proofs.dealing.row.Given as goal

abbrev pub invariant-loop-k : goal.invariant-loop-k
invariant-loop-k g l = record {
  names : deques l.owners.items ≡ deques l.initial.owners.items;
  reached : map reach_deque l.row.items ≡ take l.k (deques l.initial.owners.items);
  none : map reach_got l.row.items ≡ map (λ _. []) (take l.k (deques l.initial.owners.items));
  count : length l.row.items ≡ l.k;
  parts : HasParts l.number l.row.items;
  cut : Cut l.number l.k l.owners.items;
}
