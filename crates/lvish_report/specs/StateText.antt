-- How the states of variables are printed.
use Rattle.std.specs.Prelude.{ℕ, ℤ, Bool, true, false, codes, List, [], ◌++◌, map}
use Rattle.std.specs.List.{join_by}
use Rattle.std.specs.Fmt.{signed_decimal}
use Rattle.lvish_lattice.specs.declared.flat.Flat.{Flat}
use Rattle.lvish_lattice.specs.declared.flat.Flat.TheVariants.{Bottom, Value}
use Rattle.lvish_lattice.specs.GrowSet.{items_of}
use Rattle.lvish_lattice.specs.declared.max_counter.MaxCounter.{MaxCounter}
use Rattle.lvish_lattice.specs.MaxCounter.{number_of}
use Rattle.lvish_compound.specs.declared.any.Any.{Any}
use Rattle.lvish_compound.specs.declared.any.Any.TheVariants as any
use Rattle.lvish_compound.specs.declared.part.Part.{Part}
use Rattle.lvish_compound.specs.declared.part.Part.TheVariants as part
use Rattle.lvish_compound.specs.Above.{state_of}
use Rattle.lvish_compound.specs.Sides.{pair_of}
use Rattle.lvish_compound.specs.MapOf.{entries_of}
use Rattle.lvish_compound.specs.Tally.{entries_of as amounts_of}
use Rattle.lvish_syntax.specs.declared.kind.SimpleKind.{SimpleKind}
use Rattle.lvish_syntax.specs.declared.kind.SimpleKind.TheVariants.{Cell, Set, Max}
use Rattle.lvish_syntax.specs.declared.kind.VariableKind.{VariableKind}
use Rattle.lvish_syntax.specs.declared.kind.VariableKind.TheVariants.{Simple, Map, Pair, Tally}

-- texts in braces, with one space between any two
abbrev pub braced : List (List ℕ) → List ℕ
braced texts = codes "{" ++ (join_by (λ t. t) (codes " ") texts ++ codes "}")

-- what stands before a piece, by whether it is the first
abbrev pub gap : Bool → List ℕ
gap true = []
gap false = codes " "

-- the elements of a set
abbrev pub set_text : List ℤ → List ℕ
set_text ns = braced (map signed_decimal ns)

-- a key, and what a map holds there
abbrev pub entry_text : ℤ × Flat ℤ → List ℕ
entry_text (k, Value n) = signed_decimal k ++ (codes ":" ++ signed_decimal n)
entry_text (k, Bottom) = signed_decimal k ++ codes ":empty"

abbrev pub map_text : List (ℤ × Flat ℤ) → List ℕ
map_text entries = braced (map entry_text entries)

-- a key and its amount, as those of a map
abbrev pub amount_text : ℤ × MaxCounter → List ℕ
amount_text e = signed_decimal e.0 ++ (codes ":" ++ signed_decimal (number_of e.1))

abbrev pub tally_text : List (ℤ × MaxCounter) → List ℕ
tally_text entries = braced (map amount_text entries)

-- a cell, a set or a counter; a state of another kind is printed as bottom
abbrev pub simple_text : SimpleKind → Part → List ℕ
simple_text Cell (part.Cell n) = signed_decimal n
simple_text Cell p = codes "empty"
simple_text Set (part.Set s) = set_text (items_of (state_of s))
simple_text Set p = codes "{}"
simple_text Max (part.Max c) = signed_decimal (number_of (state_of c))
simple_text Max p = codes "0"

-- two sides
abbrev pub sides_text : List ℕ → List ℕ → List ℕ
sides_text one two = codes "(" ++ (one ++ (codes ", " ++ (two ++ codes ")")))

abbrev pub pair_text : SimpleKind → SimpleKind → Part → Part → List ℕ
pair_text a b one two = sides_text (simple_text a one) (simple_text b two)

-- a state by the kind of its variable; one of another kind is printed as bottom
abbrev pub state_text : VariableKind → Any → List ℕ
state_text (Simple k) (any.Part p) = simple_text k p
state_text (Simple k) s = simple_text k part.Empty
state_text Map (any.Map m) = map_text (entries_of (state_of m))
state_text Map s = codes "{}"
state_text (Pair a b) (any.Sides z) = let sides = pair_of z in pair_text a b sides.one sides.two
state_text (Pair a b) s = pair_text a b part.Empty part.Empty
state_text Tally (any.Tally t) = tally_text (amounts_of (state_of t))
state_text Tally s = codes "{}"
