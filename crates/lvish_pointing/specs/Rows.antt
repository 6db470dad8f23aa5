-- The rows of an answer, by the names of nodes and the states of their relations.
use Rattle.std.specs.Prelude.{ℕ, zero, suc, List, [], ◌∷◌, ◌++◌, Option, Some, None, map, slice_get}
use Rattle.lvish_facts.specs.declared.node.Node.{Node}
use Rattle.lvish_facts.specs.Names.{Word}
use Rattle.lvish_pointing.specs.Numbers.{name_at}
use Rattle.lvish_pointing.specs.Answers.{Row}

-- the row of what a pointer points to, none where that is nothing
abbrev pub row_of : List Word → Node → List Node → List Row
row_of names pointer [] = []
row_of names pointer (n ∷ ns) = record { pointer = name_at names pointer; targets = map (name_at names) (n ∷ ns) } ∷ []

module _ {S : Type 0} (items : S → List Node) (names : List Word) where
  abbrev pub row_at : ℕ → Option S → List Row
  row_at k None = []
  row_at k (Some s) = row_of names (record { number = k }) (items s)

  -- the rows of the first of the states
  abbrev pub rows_of : List S → ℕ → List Row
  rows_of states zero = []
  rows_of states (suc k) = rows_of states k ++ row_at k (slice_get states k)
