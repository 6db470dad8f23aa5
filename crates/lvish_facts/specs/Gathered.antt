-- The set of listed values.
use Rattle.std.specs.Prelude.{true, List, [], ◌∷◌, unwrap_or}
use Rattle.std.specs.declared.cmp.Ordering.{Ordering}
use Rattle.std.specs.declared.cmp.Ord as ord
use Rattle.std.specs.declared.cmp.PartialEq as partial_eq
use Rattle.std.specs.declared.cmp.PartialOrd as partial_ord
use Rattle.std.specs.Set.{sorted_merge}
use Rattle.lvish_lattice.specs.declared.grow_set.GrowSet.{GrowSet}
use Rattle.lvish_lattice.specs.GrowSet.{empty, set_of}

-- the values of a list in ascending order, each once
unfoldable pub in_order : {V : Type 0} → (V → V → Ordering) → List V → List V
in_order cmp [] = []
in_order cmp (x ∷ xs) = sorted_merge cmp true (x ∷ []) (in_order cmp xs)

-- the set of the listed values, which stand in any order, and may be repeated
abbrev pub gathered : {V : Type 0} {o : ord.Ghosts V} {e : partial_eq.Ghosts V} {p : partial_ord.Ghosts V} → List V → GrowSet V o e p
gathered {o = o} xs = unwrap_or (set_of (in_order o.cmp xs)) empty
