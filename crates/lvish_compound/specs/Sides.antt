-- Pairs of parts that aren't both empty.
use Rattle.std.specs.Prelude.{◌≡◌, Bool, true, false, Option, Some, None, refl}
use Rattle.lvish_compound.specs.Vocabulary.{Pair, Part, Empty}
use Rattle.lvish_compound.specs.declared.sides.Sides.{Sides}
use Rattle.lvish_compound.specs.Parts.{no_sides, pairs_alike}

-- the two sides
abbrev pub pair_of : Sides → Pair Part Part
pair_of z = z.pair

-- two empty sides
abbrev pub none : Pair Part Part
none = record { one = Empty; two = Empty }

abbrev pub alike : Sides → Sides → Bool
alike a b = pairs_alike a.pair b.pair

abbrev pub above_by : (p : Pair Part Part) (t : Bool) → no_sides p ≡ t → Option Sides
above_by p true h = None
above_by p false h = Some (record { pair = p; rises = h })

-- the pair, unless both sides are empty
abbrev pub above : Pair Part Part → Option Sides
above p = above_by p (no_sides p) refl
