use Rattle.std.proofs.Common.{take}
use Rattle.std.specs.List.Sorted.{IsStrictlySortedBy}
use Rattle.lvish_lattice.proofs.Several.{IsWithout}
use Rattle.lvish_lattice.proofs.trees.take_out.Given as goal

abbrev pub invariant-loop-x : goal.invariant-loop-x
invariant-loop-x g l = record {
  ascending : IsStrictlySortedBy g.V.Ord.cmp l.tree.keys;
  without : IsWithout g.V.Ord.cmp (take l.x-index l.values) l.fn.tree.keys l.tree.keys;
}
