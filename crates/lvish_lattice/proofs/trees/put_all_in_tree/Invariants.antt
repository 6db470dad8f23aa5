use Rattle.std.proofs.Common.{take}
use Rattle.std.specs.List.Sorted.{IsStrictlySortedBy}
use Rattle.lvish_lattice.proofs.Several.{IsWith}
use Rattle.lvish_lattice.proofs.trees.put_all_in_tree.Given as goal

abbrev pub invariant-loop-x : goal.invariant-loop-x
invariant-loop-x g l = record {
  ascending : IsStrictlySortedBy g.V.Ord.cmp l.tree.keys;
  with : IsWith g.V.Ord.cmp (take l.x-index l.missing) l.fn.tree.keys l.tree.keys;
}
