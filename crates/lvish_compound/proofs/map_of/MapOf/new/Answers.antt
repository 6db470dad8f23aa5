use Rattle.std.proofs.Common.{refl}
use Rattle.std.specs.List.Sorted.{IsStrictlySortedBy}
use Rattle.lvish_compound.proofs.map_of.MapOf.new.Goals as goal

pub invariant_of-result : goal.invariant_of-result
unfolding IsStrictlySortedBy
invariant_of-result g c = record { ascending = rw c.new.ensures tt; above = rw c.new.ensures refl }
