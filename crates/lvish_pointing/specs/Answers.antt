-- Who points to whom, as a text.
use Rattle.std.specs.Prelude.{◌≡◌, ℕ, Bool, true, List, [], ◌∷◌, ◌++◌, length, Contains}
use Rattle.std.specs.List.{flat_map, sum_by}
use Rattle.std.specs.List.Sorted.{IsStrictlySortedBy}
use Rattle.std.specs.Ordering.{nat_cmp, on}
use Rattle.std.specs.Cmp.Lexicographic.{slice_cmp}
use Rattle.lvish_facts.specs.Names.{Word}
use Rattle.lvish_pointing.specs.declared.fault.PointFault.{PointFault}
use Rattle.lvish_pointing.specs.declared.fault.PointFault.TheVariants.{Line, Empty, Erring, Memory, NoThread}
use Rattle.lvish_pointing.specs.Facts.{facts_of, IsAccepted, IsEmpty, IsFirstFault}
use Rattle.lvish_pointing.specs.Solutions.{IsInEvery}

-- a pointer, and what it points to
pub record Row : Type 0 where
  pub pointer : Word
  pub targets : List Word

-- a line: the pointer with a colon, and behind it the names that it points to, each behind a space
abbrev pub line_with : Row → List ℕ
line_with row = row.pointer ++ 58 ∷ (flat_map (λ name. 32 ∷ name) row.targets ++ 10 ∷ [])

abbrev pub lines_with : List Row → List ℕ
lines_with rows = flat_map line_with rows

-- how many names are pointed to, counted at each that points to them
abbrev pub pointed : List Row → ℕ
pointed rows = sum_by (λ row. length row.targets) rows

-- the row has names, in the order of their bytes, each once
pub record IsOrdered (row : Row) : Type 0 where
  pub some : row.targets ≡ [] → ⊥
  pub rising : IsStrictlySortedBy (slice_cmp nat_cmp) row.targets

-- the rows have the name as one that the pointer points to
pub record Says (rows : List Row) (p x : Word) : Type 0 where
  pub row : Row
  pub there : Contains rows row
  pub of : row.pointer ≡ p
  pub names : Contains row.targets x

-- the text has who points to whom in every solution, in the order of their bytes, each once, this many names at their pointers; and all of these, where it is whole
pub record IsAnswer (input : List ℕ) (is_whole : Bool) (text : List ℕ) (count : ℕ) : Type 0 where
  pub rows : List Row
  pub spelled : text ≡ lines_with rows
  pub counted : count ≡ pointed rows
  pub rising : IsStrictlySortedBy (on (λ row. row.pointer) (slice_cmp nat_cmp)) rows
  pub ordered : (row : Row) → Contains rows row → IsOrdered row
  pub sound : (p x : Word) → Says rows p x → IsInEvery (facts_of input) p x
  pub exact : is_whole ≡ true → (p x : Word) → IsInEvery (facts_of input) p x → Says rows p x

-- why there is no answer: the first line on which something is missing, no fact at all, or nothing that is said of the input
abbrev pub IsRefused : List ℕ → PointFault → Type 0
IsRefused input (Line number expected) = IsFirstFault input number expected
IsRefused input Empty = IsEmpty input
IsRefused input (Erring kind) = IsAccepted input
IsRefused input Memory = Unit {0}
IsRefused input NoThread = Unit {0}
