use Rattle.std.proofs.Common.{refl, ap, not}
use Rattle.std.specs.List.Sorted.{IsStrictlySortedBy}
use Rattle.lvish_lattice.specs.Ascending.{and_both}
use Rattle.lvish_compound.proofs.map_of.MapOf.rising.Goals as goal

pub invariant_of-result : goal.invariant_of-result
unfolding IsStrictlySortedBy
invariant_of-result g c = record { ascending = rw c.one.ensures (tt, tt); above = rw c.one.ensures (and_both (ap not c.requires) refl) }
