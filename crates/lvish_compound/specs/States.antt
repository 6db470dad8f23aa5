-- The states of a script's variables: a part, a map, two parts side by side, or a tally.
use Rattle.std.specs.Prelude.{ℕ, ℤ, pos, Bool, false, cond, nat_eq, List, [], ◌∷◌, map, Option, Some, None, option_map}
use Rattle.lvish_lattice.specs.Ascending.{one_rises}
use Rattle.lvish_lattice.specs.GrowSet.{set_with}
use Rattle.lvish_compound.specs.Vocabulary.{Value, MaxCounter, Event, Pair, Empty, Cell, Set, Max}
use Rattle.std.specs.Ordering.{int_cmp}
pub use Rattle.lvish_compound.specs.declared.any.Any.{Any}
pub use Rattle.lvish_compound.specs.declared.any.Any.TheVariants.{Part, Map, Sides, Tally}
use Rattle.lvish_compound.specs.declared.part.Part as part
use Rattle.lvish_compound.specs.declared.sides.Sides as sides
use Rattle.lvish_compound.specs.declared.tally.Tally as tallies
use Rattle.lvish_compound.specs.Above.{alike as same}
use Rattle.lvish_compound.specs.Numbers.{max_of}
use Rattle.lvish_compound.specs.EventNames.{part_event, entry_event, tally_event, side_event}
use Rattle.lvish_compound.specs.Held.{HeldState, held, bottom_of}
use Rattle.lvish_compound.specs.MapOf as map_of
use Rattle.lvish_compound.specs.MapReads.{holding}
use Rattle.lvish_compound.specs.Pair as pair
use Rattle.lvish_compound.specs.Parts as parts
use Rattle.lvish_compound.specs.Sides.{above, alike as same_sides}
use Rattle.lvish_compound.specs.Tally as tally

-- bottom
abbrev pub nothing : Any
nothing = Part Empty

abbrev pub of_part : part.Part → Any
of_part s = Part s

-- a map, empty where it has no entry
abbrev pub of_map : HeldState Map → Any
of_map m = held Map nothing m

-- a tally, empty where it has no entry
abbrev pub of_tally : tallies.Tally → Any
of_tally t = held Tally nothing t

abbrev pub from_sides : Option sides.Sides → Any
from_sides (Some z) = Sides z
from_sides None = nothing

-- two parts, empty where both are
abbrev pub of_pair : Pair part.Part part.Part → Any
of_pair p = from_sides (above p)

-- the other state where the part is empty, and else top
abbrev pub unless_part : part.Part → Any → Option Any
unless_part Empty t = Some t
unless_part s t = None

abbrev pub cell : ℤ → Any
cell n = Part (Cell n)

abbrev pub singleton : ℤ → HeldState Set
singleton n = set_with (n ∷ []) (one_rises int_cmp n)

-- the set of one element
abbrev pub set : ℤ → Any
set n = Part (held Set Empty (singleton n))

-- a counter, empty at 0
abbrev pub of_max : MaxCounter → Any
of_max c = Part (held Max Empty c)

-- the counter that holds a number, where it is from 0 to 1000
abbrev pub counter : ℤ → Option Any
counter n = option_map of_max (max_of n)

-- the map of one key and its value
abbrev pub entry : ℤ → ℤ → Any
entry k n = of_map (holding k (Value n))

-- the tally of one key and its amount
abbrev pub counted : ℤ → MaxCounter → Any
counted k c = of_tally (tally.single k c)

-- the tally in which a key has an amount, where that is from 0 to 1000; empty at 0
abbrev pub amount : ℤ → ℤ → Option Any
amount k n = option_map (counted k) (max_of n)

-- a part as the side of this number
abbrev pub part_aside : ℕ → part.Part → Option Any
part_aside i s = cond (nat_eq i 1) (Some (of_pair (record { one = s; two = Empty }))) (cond (nat_eq i 2) (Some (of_pair (record { one = Empty; two = s }))) None)

-- a state as a side: there are two sides, each of which is a part
abbrev pub side : ℕ → Any → Option Any
side i (Part s) = part_aside i s
side i s = None

-- the part, the map, the two sides and the tally of a state, bottom where it is of another kind
abbrev pub part_in : Any → part.Part
part_in (Part s) = s
part_in s = Empty

abbrev pub map_in : Any → HeldState Map
map_in (Map x) = x.state
map_in s = bottom_of Map

abbrev pub sides_in : Any → Pair part.Part part.Part
sides_in (Sides z) = z.pair
sides_in s = record { one = Empty; two = Empty }

abbrev pub tally_in : Any → tallies.Tally
tally_in (Tally x) = x.state
tally_in s = bottom_of Tally

-- different kinds join to top
abbrev pub joined : Any → Any → Option Any
joined (Part s) (Part t) = option_map of_part (parts.joined s t)
joined (Part s) (Map y) = unless_part s (Map y)
joined (Part s) (Sides z) = unless_part s (Sides z)
joined (Part s) (Tally y) = unless_part s (Tally y)
joined (Map x) (Part t) = unless_part t (Map x)
joined (Map x) (Map y) = option_map of_map (map_of.joined x.state y.state)
joined (Sides x) (Part t) = unless_part t (Sides x)
joined (Sides x) (Sides z) = option_map of_pair (parts.pairs_joined x.pair z.pair)
joined (Tally x) (Part t) = unless_part t (Tally x)
joined (Tally x) (Tally y) = option_map of_tally (tally.joined x.state y.state)
joined s t = None

-- the events, each with its key, kind and number
abbrev pub events_of : Any → List Event
events_of (Part s) = map (part_event (pos 0)) (parts.events_of s)
events_of (Map x) = map entry_event (map_of.map_events_of x.state)
events_of (Sides z) = map side_event (pair.events_of parts.events_of parts.events_of z.pair)
events_of (Tally x) = map tally_event (tally.events_of x.state)

-- whether two states have the same kind and hold the same
abbrev pub alike : Any → Any → Bool
alike (Part s) (Part t) = parts.alike s t
alike (Map x) (Map y) = same x y
alike (Sides x) (Sides z) = same_sides x z
alike (Tally x) (Tally y) = same x y
alike s t = false
