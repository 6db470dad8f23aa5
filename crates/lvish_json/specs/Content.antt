-- What is told of the states of variables, by the kinds of these.
use Rattle.std.specs.Prelude.{ℕ, ℤ, pos, codes, List, [], ◌∷◌, ◌++◌}
use Rattle.json.specs.Json.{Json, null}
use Rattle.lvish_lattice.specs.declared.flat.Flat.{Flat}
use Rattle.lvish_lattice.specs.declared.flat.Flat.TheVariants.{Bottom, Value}
use Rattle.lvish_lattice.specs.GrowSet.{items_of as elements_of}
use Rattle.lvish_lattice.specs.declared.max_counter.MaxCounter.{MaxCounter}
use Rattle.lvish_lattice.specs.MaxCounter.{number_of}
use Rattle.lvish_compound.specs.declared.any.Any.{Any}
use Rattle.lvish_compound.specs.declared.any.Any.TheVariants as any
use Rattle.lvish_compound.specs.declared.part.Part.{Part}
use Rattle.lvish_compound.specs.declared.part.Part.TheVariants as part
use Rattle.lvish_compound.specs.Above.{state_of}
use Rattle.lvish_compound.specs.Sides.{pair_of}
use Rattle.lvish_compound.specs.MapOf.{entries_of}
use Rattle.lvish_compound.specs.Tally.{entries_of as amounts_of}
use Rattle.lvish_syntax.specs.declared.kind.SimpleKind.{SimpleKind}
use Rattle.lvish_syntax.specs.declared.kind.SimpleKind.TheVariants.{Cell, Set, Max}
use Rattle.lvish_syntax.specs.declared.kind.VariableKind.{VariableKind}
use Rattle.lvish_syntax.specs.declared.kind.VariableKind.TheVariants.{Simple, Map, Pair, Tally}
use Rattle.lvish_json.specs.Shape.{items_of, each, fields, whole}

-- the word of a kind that a side can have
abbrev pub simple_kind_text : SimpleKind → List ℕ
simple_kind_text Cell = codes "cell"
simple_kind_text Set = codes "set"
simple_kind_text Max = codes "max"

-- a kind, in the words of a declaration without its name
abbrev pub kind_text : VariableKind → List ℕ
kind_text (Simple k) = simple_kind_text k
kind_text Map = codes "map"
kind_text (Pair a b) = codes "pair " ++ (simple_kind_text a ++ (codes " " ++ simple_kind_text b))
kind_text Tally = codes "tally"

-- an object with a key and what stands there
abbrev pub keyed : ℤ → Json → Json
keyed k j = fields ((codes "key", whole k) ∷ (codes "value", j) ∷ [])

-- a key, and what a map holds there
abbrev pub entry_value : ℤ × Flat ℤ → Json
entry_value (k, Value n) = keyed k (whole n)
entry_value (k, Bottom) = keyed k null

-- a key and its amount, as those of a map
abbrev pub amount_value : ℤ × MaxCounter → Json
amount_value e = keyed e.0 (whole (number_of e.1))

-- a cell, a set or a counter; a state of another kind is told as bottom
abbrev pub simple_content : SimpleKind → Part → Json
simple_content Cell (part.Cell n) = whole n
simple_content Cell p = null
simple_content Set (part.Set s) = each whole (elements_of (state_of s))
simple_content Set p = each whole []
simple_content Max (part.Max c) = whole (number_of (state_of c))
simple_content Max p = whole (pos 0)

-- an array of two sides
abbrev pub pair_content : SimpleKind → SimpleKind → Part → Part → Json
pair_content a b one two = Json.array (items_of (simple_content a one ∷ simple_content b two ∷ []))

-- a state by the kind of its variable; one of another kind is told as bottom
abbrev pub content : VariableKind → Any → Json
content (Simple k) (any.Part p) = simple_content k p
content (Simple k) s = simple_content k part.Empty
content Map (any.Map m) = each entry_value (entries_of (state_of m))
content Map s = each entry_value []
content (Pair a b) (any.Sides z) = let sides = pair_of z in pair_content a b sides.one sides.two
content (Pair a b) s = pair_content a b part.Empty part.Empty
content Tally (any.Tally t) = each amount_value (amounts_of (state_of t))
content Tally s = each amount_value []
