-- At most one entry, as the list that it stands for.
use Rattle.std.proofs.Common.{map, Option, Some, None}
use Rattle.std.specs.List.Sorted.{IsStrictlySortedBy}
use Rattle.lvish_compound.specs.Vocabulary.{Ordering}
use Rattle.lvish_compound.specs.Keyed.{key}
use Rattle.lvish_compound.specs.Stored.{few}

-- the keys of at most one entry ascend
pub few_rises : {K L : Type 0} (R : K → K → Ordering) (held : Option (K × L)) → IsStrictlySortedBy R (map key (few held))
unfolding IsStrictlySortedBy
few_rises R None = tt
few_rises R (Some e) = (tt, tt)
