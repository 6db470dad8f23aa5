-- The edges that a text spells, and what they reach.
use Rattle.std.specs.Prelude.{◌≡◌, ◌==◌, ◌+◌, ◌<◌, ℕ, Bool, true, false, List, [], ◌∷◌, map, length, slice_get, Some, Contains}
use Rattle.std.specs.List.{flat_map}
use Rattle.lvish_checks.specs.Text.{lines_of, words_of}
use Rattle.lvish_facts.specs.Names.{Word}

-- an edge leads from one node to another, which have these names
abbrev pub Edge : Type 0
Edge = Word × Word

-- the edges of a line: from its first word to each other
abbrev pub edges_on : List Word → List Edge
edges_on [] = []
edges_on (from ∷ others) = map (λ to. (from, to)) others

-- the edges of a text, line after line
abbrev pub edges_of : List ℕ → List Edge
edges_of text = flat_map (λ line. edges_on (words_of line)) (lines_of text)

-- whether the line has one word alone
abbrev pub is_alone : List ℕ → Bool
is_alone line = length (words_of line) == 1

-- no line before this place has one word alone
abbrev pub IsNoneAlone : List (List ℕ) → ℕ → Type 0
IsNoneAlone lines place = (k : ℕ) (line : List ℕ) → k < place → slice_get lines k ≡ Some line → is_alone line ≡ false

-- no line has one word alone, and there are edges
pub record IsAccepted (text : List ℕ) : Type 0 where
  pub paired : IsNoneAlone (lines_of text) (length (lines_of text))
  pub some : edges_of text ≡ [] → ⊥

-- no line has one word alone, and there is no edge
pub record IsEmpty (text : List ℕ) : Type 0 where
  pub paired : IsNoneAlone (lines_of text) (length (lines_of text))
  pub none : edges_of text ≡ []

-- the line of this number, from 1, has one word alone, and no line before it has
pub record IsFirstAlone (text : List ℕ) (number : ℕ) : Type 0 where
  pub place : ℕ
  pub line : List ℕ
  pub counted : number ≡ place + 1
  pub there : slice_get (lines_of text) place ≡ Some line
  pub alone : is_alone line ≡ true
  pub first : IsNoneAlone (lines_of text) place

-- edges lead from the root to the node
pub data IsReachable (edges : List Edge) (root : Word) : Word → Type 0 where
  itself : IsReachable edges root root
  along : {from to : Word} → IsReachable edges root from → Contains edges (from, to) → IsReachable edges root to
