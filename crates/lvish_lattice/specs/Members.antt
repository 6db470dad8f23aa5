-- Reads of a set by a list of elements.
use Rattle.std.specs.Prelude.{◌≡◌, Bool, List, [], ◌∷◌, Option, Contains, find}
use Rattle.std.specs.Set.{is_member}
use Rattle.std.specs.declared.cmp.Ord as ord
use Rattle.std.specs.declared.cmp.PartialEq as partial_eq
use Rattle.std.specs.declared.cmp.PartialOrd as partial_ord
use Rattle.lvish_lattice.specs.declared.grow_set.GrowSet.{GrowSet}
use Rattle.lvish_lattice.specs.declared.grow_set.Members.{Members}
use Rattle.lvish_lattice.specs.declared.grow_set.Members.TheVariants.{In}
use Rattle.lvish_lattice.specs.GrowSet.{items_of}
use Rattle.lvish_lattice.specs.Listed.{one_of}

-- the elements that are waited for
abbrev pub listed : {V : Type 0} → Members V → List V
listed (In xs) = xs

module _ {V : Type 0} {o : ord.Ghosts V} {e : partial_eq.Ghosts V} {p : partial_ord.Ghosts V} where
  -- the members are the sets of one listed element each, which they answer
  abbrev pub Member : Members V → GrowSet V o e p → V → Type 0
  Member r s a = Contains (listed r) a × (items_of s ≡ a ∷ [])

  -- the first of the listed elements that the set has
  abbrev pub answer_of : (V → V → Bool) → Members V → GrowSet V o e p → Option V
  answer_of eq r s = find (is_member eq (items_of s)) (listed r)

-- an element is its own spot
abbrev pub spot_of : {V : Type 0} → V → V
spot_of x = x

abbrev pub watched : {V : Type 0} → (V → V → Bool) → Members V → Option V
watched eq r = one_of eq (listed r)
