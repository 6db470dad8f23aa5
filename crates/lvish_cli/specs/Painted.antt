-- How an explanation is shown on a terminal.
use Rattle.std.specs.Prelude.{◌≡◌, ◌≤◌, ◌⊎◌, ℕ, List, ◌∷◌, ◌++◌, take, drop, length, Some, slice_get, codes}

-- what makes a terminal print bold, and what ends it
abbrev pub bold : List ℕ
bold = 27 ∷ codes "[1m"

abbrev pub plain : List ℕ
plain = 27 ∷ codes "[0m"

-- so many bytes are the first line without its end: a line feed follows, or nothing
abbrev pub IsHeadLength : List ℕ → ℕ → Type 0
IsHeadLength text n = (n ≤ length text) × ((n ≡ length text) ⊎ (slice_get text n ≡ Some 10))

-- the text, its first line in bold
abbrev pub IsPainted : List ℕ → List ℕ → Type 0
IsPainted text painted = (n : ℕ) × IsHeadLength text n × (painted ≡ bold ++ take n text ++ plain ++ drop n text)
