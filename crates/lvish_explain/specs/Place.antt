-- Lines by their numbers, which begin at 1.
use Rattle.std.specs.Prelude.{ℕ, zero, suc, List, [], get_or}

-- the line with a number; an empty one where there is none
abbrev pub line_at : List (List ℕ) → ℕ → List ℕ
line_at lines zero = []
line_at lines (suc k) = get_or lines k []
