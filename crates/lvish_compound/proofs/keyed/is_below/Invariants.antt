use Rattle.std.proofs.Common.{◌≡◌, ◌↔◌, true, map}
use Rattle.std.specs.List.Sorted.{IsStrictlySortedBy}
use Rattle.lvish_compound.specs.Keyed.{key, has_no}
use Rattle.lvish_compound.proofs.Parts.{AllBelow}
use Rattle.lvish_compound.proofs.keyed.is_below.Given as goal

abbrev pub invariant-loop-key : goal.invariant-loop-key
invariant-loop-key g l = record {
  rises : IsStrictlySortedBy g.K.Ord.cmp (map key l.key-iterator);
  above : has_no g.L.PartialEq.eq g.L.Lattice.least l.key-iterator ≡ true;
  same : AllBelow g.K.Ord.cmp g.L.Lattice.least g.L.Lattice.joined g.met.K.Ord.total g.met.L.Lattice.is_join l.key-iterator l.ys ↔ AllBelow g.K.Ord.cmp g.L.Lattice.least g.L.Lattice.joined g.met.K.Ord.total g.met.L.Lattice.is_join l.xs l.ys;
}
