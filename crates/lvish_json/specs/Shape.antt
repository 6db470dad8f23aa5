-- The shapes of values in what is written as JSON.
use Rattle.std.specs.Prelude.{◌≡◌, ◌^◌, ℕ, ℤ, pos, nat_lt, unsigned_abs, if◌then◌else◌, List, [], ◌∷◌, ◌++◌, map, Option, Some, None}
use Rattle.std.specs.Fmt.{signed_decimal}
use Rattle.std.specs.Str.{IsUtf8}
use Rattle.json.specs.Json.{Json, null, number, string, array, object, Items, no_items, item, Members, no_members, member, document}
use Rattle.json.specs.Tree.{json_tokens}
use Rattle.json.specs.Print.{print}

-- the items of an array, in their order
abbrev pub items_of : List Json → Items
items_of [] = no_items
items_of (j ∷ js) = item j (items_of js)

-- the members of an object, in their order
abbrev pub members_of : List (List ℕ × Json) → Members
members_of [] = no_members
members_of (m ∷ ms) = member m.0 m.1 (members_of ms)

-- the array with a value for each x
abbrev pub each : {X : Type 0} → (X → Json) → List X → Json
each show xs = array (items_of (map show xs))

-- the object with these members
abbrev pub fields : List (List ℕ × Json) → Json
fields ms = object (members_of ms)

-- the value, or null where there is none
abbrev pub if_any : {X : Type 0} → (X → Json) → Option X → Json
if_any show None = null
if_any show (Some x) = show x

-- a whole number: its decimal digits, as a string where a reader that keeps doubles could round it
abbrev pub whole : ℤ → Json
whole z = if nat_lt (unsigned_abs z) (2 ^ 53) then number (signed_decimal z) else string (signed_decimal z)

-- the same of a count
abbrev pub count : ℕ → Json
count n = whole (pos n)

-- the bytes are the text of this value and a line end; a text that is read as the value
pub record IsLineOf (j : Json) (bytes : List ℕ) : Type 0 where
  pub text : bytes ≡ print (json_tokens j) ++ 10 ∷ []
  pub reads_back : document (print (json_tokens j)) ≡ Some j
  pub utf8 : IsUtf8 (print (json_tokens j))
