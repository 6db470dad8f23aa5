-- The sides of a script's pairs.
use Rattle.std.specs.Prelude.{ℤ, Bool, true, false, ◌&&◌, List, [], ◌∷◌, Option, Some, None, option_map}
use Rattle.std.specs.Ordering.{int_eq}
use Rattle.lvish_compound.specs.Vocabulary.{Flat, Bottom, Value, MaxCounter, SideOf, Pair, Part, Empty, Cell, Set, Max}
use Rattle.lvish_lattice.specs.Flat as flat
use Rattle.lvish_lattice.specs.GrowSet as set
use Rattle.lvish_lattice.specs.MaxCounter as max
use Rattle.lvish_compound.specs.Above.{alike as same}
use Rattle.lvish_compound.specs.Held.{HeldState, held, bottom_of}
use Rattle.lvish_compound.specs.Pair as pair
use Rattle.lvish_compound.specs.Pair.{sides}

-- a cell, empty where it is bottom
abbrev pub of_cell : Flat ℤ → Part
of_cell Bottom = Empty
of_cell (Value n) = Cell n

-- different kinds join to top
abbrev pub joined : Part → Part → Option Part
joined Empty t = Some t
joined (Cell m) Empty = Some (Cell m)
joined (Cell m) (Cell n) = option_map of_cell (flat.joined int_eq (Value m) (Value n))
joined (Set x) Empty = Some (Set x)
joined (Set x) (Set y) = option_map (held Set Empty) (set.joined x.state y.state)
joined (Max x) Empty = Some (Max x)
joined (Max x) (Max y) = option_map (held Max Empty) (max.joined x.state y.state)
joined s t = None

-- the cell, the set and the counter of a part, bottom where it is of another kind
abbrev pub cell_in : Part → Flat ℤ
cell_in (Cell n) = Value n
cell_in s = Bottom

abbrev pub set_in : Part → HeldState Set
set_in (Set x) = x.state
set_in s = bottom_of Set

abbrev pub max_in : Part → MaxCounter
max_in (Max x) = x.state
max_in s = bottom_of Max

-- the events of a part, by their kind
abbrev pub events_of : Part → List (SideOf ℤ (SideOf ℤ ℤ))
events_of Empty = []
events_of (Cell n) = sides (n ∷ []) []
events_of (Set x) = sides [] (sides (set.items_of x.state) [])
events_of (Max x) = sides [] (sides [] (max.events_of x.state))

-- whether two parts have the same kind and state
abbrev pub alike : Part → Part → Bool
alike Empty Empty = true
alike (Cell m) (Cell n) = int_eq m n
alike (Set x) (Set y) = same x y
alike (Max x) (Max y) = same x y
alike s t = false

abbrev pub is_empty : Part → Bool
is_empty Empty = true
is_empty s = false

-- whether both sides are empty
abbrev pub no_sides : Pair Part Part → Bool
no_sides p = is_empty p.one && is_empty p.two

-- joined side by side
abbrev pub pairs_joined : Pair Part Part → Pair Part Part → Option (Pair Part Part)
pairs_joined = pair.joined joined joined

-- whether two pairs have the same sides
abbrev pub pairs_alike : Pair Part Part → Pair Part Part → Bool
pairs_alike p q = alike p.one q.one && alike p.two q.two
