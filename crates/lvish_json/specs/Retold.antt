-- The text of a report, printed again by somebody who has nothing but what is told of it.
use Rattle.std.specs.Prelude.{◌≡◌, ℕ, ℤ, Bool, false, ◌||◌, ◌==◌, codes, List, [], ◌∷◌, ◌++◌, map, flat_map, if◌then◌else◌, slice_index, unwrap_or, Option}
use Rattle.std.specs.Str.{bytes_eq}
use Rattle.json.specs.Json.{Json, null, boolean, number, string, array, object, Items, no_items, item}
use Rattle.json.specs.Find.{get, at}
use Rattle.lvish_compound.specs.declared.any.Any.{Any}
use Rattle.lvish_syntax.specs.Words.{Word}
use Rattle.lvish_syntax.specs.declared.kind.VariableKind.{VariableKind}
use Rattle.lvish_report.specs.declared.report.Report.{Report}
use Rattle.lvish_report.specs.StateText.{braced, sides_text}
use Rattle.lvish_report.specs.Text.{report_text}
use Rattle.lvish_json.specs.Report.{report_value}

-- the member of this name
abbrev pub field : List ℕ → Json → Json
field name j = unwrap_or (get name j) null

-- the items of an array
abbrev pub listed : Items → List Json
listed no_items = []
listed (item j js) = j ∷ listed js

abbrev pub items_in : Json → List Json
items_in null = []
items_in (boolean b) = []
items_in (number s) = []
items_in (string s) = []
items_in (array js) = listed js
items_in (object ms) = []

-- the digits of a number, the letters of a text; and where there is nothing, the word for that
abbrev pub word_or : List ℕ → Json → List ℕ
word_or nothing null = nothing
word_or nothing (boolean b) = []
word_or nothing (number s) = s
word_or nothing (string s) = s
word_or nothing (array js) = []
word_or nothing (object ms) = []

abbrev pub word : Json → List ℕ
word = word_or []

abbrev pub is_true : Json → Bool
is_true null = false
is_true (boolean b) = b
is_true (number s) = false
is_true (string s) = false
is_true (array js) = false
is_true (object ms) = false

-- an element of a set, or an entry of a map or a tally
abbrev pub piece_text : Json → List ℕ
piece_text null = []
piece_text (boolean b) = []
piece_text (number s) = s
piece_text (string s) = s
piece_text (array js) = []
piece_text (object ms) = word (field (codes "key") (object ms)) ++ (codes ":" ++ word_or (codes "empty") (field (codes "value") (object ms)))

-- what no pair holds, or a side of a pair
abbrev pub part_text : Json → List ℕ
part_text null = codes "empty"
part_text (boolean b) = []
part_text (number s) = s
part_text (string s) = s
part_text (array js) = braced (map piece_text (listed js))
part_text (object ms) = []

-- a content, by its kind; only that of a pair begins with a p
abbrev pub content_text : List ℕ → Json → List ℕ
content_text kind j = if slice_index kind 0 == 112 then sides_text (part_text (unwrap_or (at 0 j) null)) (part_text (unwrap_or (at 1 j) null)) else part_text j

-- the line of a variable that is frozen, or of any
abbrev pub line_of_state : Bool → Json → List ℕ
line_of_state all j = if all || is_true (field (codes "frozen") j) then word (field (codes "name") j) ++ (codes " = " ++ (content_text (word (field (codes "kind") j)) (field (codes "content") j) ++ 10 ∷ [])) else []

abbrev pub end_lines : Bool → Json → List ℕ
end_lines all j = flat_map (line_of_state all) (items_in (field (codes "states") j))
    ++ (codes "steps " ++ (word (field (codes "steps") j) ++ (10 ∷ (codes "blocked " ++ (word (field (codes "blocked") j) ++ 10 ∷ [])))))

abbrev pub error_line : Json → List ℕ
error_line e = codes "error " ++ (word (field (codes "kind") e) ++ (codes " " ++ (word_or (codes "-") (field (codes "variable") e) ++ (codes " " ++ (word (field (codes "task") e) ++ 10 ∷ [])))))

-- the text of the report
abbrev pub retold : Bool → Json → List ℕ
retold all j =
    if bytes_eq (word (field (codes "outcome") j)) (codes "ended") then end_lines all j
    else (if bytes_eq (word (field (codes "outcome") j)) (codes "error") then error_line (field (codes "error") j)
    else codes "budget " ++ (word (field (codes "steps") j) ++ 10 ∷ []))

module _ {E : Type 0} (key number : E → ℤ) where
  -- each report's text is printed again from what is told of it
  abbrev pub AreRetold : Type 0
  AreRetold = (all : Bool) (variables : List (Word × VariableKind)) (r : Report Any E) (picks : Option (List ℕ)) → retold all (report_value variables key number r picks) ≡ report_text key number variables r all
