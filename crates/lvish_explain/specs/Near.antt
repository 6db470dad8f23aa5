-- The name that is nearest to a word.
use Rattle.std.specs.Prelude.{◌≡◌, ℕ, ◌≤◌, ◌<◌, List, [], length, map, get_or, nat_eq, codes, Option, Some, None, Contains}
use Rattle.std.specs.List.{All}
use Rattle.strsim.specs.Edits.{levenshtein_row}
use Rattle.lvish_syntax.specs.Words.{Word}
use Rattle.lvish_explain.specs.declared.known.Space.{Space}
use Rattle.lvish_explain.specs.declared.known.Known.{Known}
use Rattle.lvish_explain.specs.declared.reason.Reason.{Reason}
use Rattle.lvish_explain.specs.declared.reason.Reason.TheVariants.{NoMain}
use Rattle.lvish_explain.specs.Known.{seen, names_of}
use Rattle.lvish_explain.specs.Reasons.{space_meant}

-- how many bytes are put in, left out or replaced on the shortest way from one to the other
abbrev pub edits : Word → Word → ℕ
edits a b = levenshtein_row nat_eq a b (length b)

-- one of the names, within two edits, and none is nearer; or none is within two edits
abbrev pub IsNearest : Word → List Known → Option Known → Type 0
IsNearest w names None = All (λ (k : Known). 2 < edits k.name.now w) names
IsNearest w names (Some best) = Contains names best × (edits best.name.now w ≤ 2) × All (λ (k : Known). edits best.name.now w ≤ edits k.name.now w) names

-- the nearest of the names of a space, if one was meant
abbrev pub IsNearIn : Option Space → Word → List (List ℕ) → ℕ → Option Known → Type 0
IsNearIn None w lines number found = found ≡ None
IsNearIn (Some s) w lines number found = (names : List Known) × (map seen names ≡ names_of s lines number) × IsNearest w names found

-- the word that was meant for a name: `main`, or that at a place of the line
abbrev pub word_meant : Reason → List Word → ℕ → Word
word_meant NoMain words k = codes "main"
word_meant r words k = get_or words k []

-- the declared name that is nearest to the word at a place of a line with these words, where the reason tells what it was meant for
abbrev pub IsNearName : Reason → List Word → ℕ → List (List ℕ) → ℕ → Option Known → Type 0
IsNearName r words k lines number found = IsNearIn (space_meant r) (word_meant r words k) lines number found
