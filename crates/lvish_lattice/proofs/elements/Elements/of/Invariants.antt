use Rattle.std.proofs.Common.{take, ◌≡◌}
use Rattle.std.specs.Ordering.{eq_by_cmp}
use Rattle.std.specs.Set.{is_member}
use Rattle.std.specs.List.Sorted.{IsStrictlySortedBy}
use Rattle.lvish_lattice.proofs.elements.Elements.of.Given as goal

abbrev pub invariant-loop-x : goal.invariant-loop-x
invariant-loop-x g l = record {
  ascending : IsStrictlySortedBy g.V.Ord.cmp l.elements;
  members : (q : g.row.V.Denot) → is_member (eq_by_cmp g.V.Ord.cmp) l.elements q ≡ is_member (eq_by_cmp g.V.Ord.cmp) (take l.x-index l.values) q;
}
