use Rattle.std.proofs.Common.{sym, subst}
use Rattle.std.specs.List.Sorted.{IsStrictlySortedBy}
use Rattle.lvish_lattice.specs.Ascending.{one_rises}
use Rattle.lvish_lattice.proofs.grow_set.GrowSet.one.Goals as goal

pub invariant_of-result : goal.invariant_of-result
invariant_of-result g c = record { ascending = subst (IsStrictlySortedBy g.V.Ord.cmp) (sym c.one.ensures) (one_rises g.V.Ord.cmp c.args.element) }
