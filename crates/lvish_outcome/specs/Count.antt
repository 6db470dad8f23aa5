-- How many steps, or tasks, there are by line.
use Rattle.std.specs.Prelude.{◌≡◌, ◌+◌, ℕ, List, [], ◌∷◌, length, filter, nat_eq, reverse, take}
use Rattle.std.specs.List.{All}
use Rattle.std.specs.List.Sorted.{IsPermutation, IsNonDecreasingBy}
use Rattle.lvish_outcome.specs.declared.told.LineCount.{LineCount}

-- how often a line is there
abbrev pub times : ℕ → List ℕ → ℕ
times line at = length (filter (λ n. nat_eq n line) at)

-- each line's count is how often it is there
abbrev pub AreCounts : List ℕ → List LineCount → Type 0
AreCounts at counts = All (λ (c : LineCount). c.count ≡ times c.line at) counts

-- what counts come to
abbrev pub sum : List LineCount → ℕ
sum [] = 0
sum (c ∷ cs) = c.count + sum cs

-- the same, and nothing else is there
abbrev pub AreAllCounts : List ℕ → List LineCount → Type 0
AreAllCounts at counts = AreCounts at counts × (sum counts ≡ length at)

-- the same counts, the greatest first
pub record AreFalling (counts falling : List LineCount) : Type 0 where
  pub rising : List LineCount
  pub same : IsPermutation counts rising
  pub sorted : IsNonDecreasingBy (λ (c : LineCount). c.count) rising
  pub is : falling ≡ reverse rising

-- of these the five greatest, or all where they are fewer, the greatest first
pub record AreBusiest (counts found : List LineCount) : Type 0 where
  pub falling : List LineCount
  pub sorted : AreFalling counts falling
  pub first : found ≡ take 5 falling
