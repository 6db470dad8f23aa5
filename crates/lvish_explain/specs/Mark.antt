-- Where the carets stand under a line.
use Rattle.std.specs.Prelude.{◌≡◌, ℕ, suc, ◌-◌, take, drop, Bool, true, not, ◌&&◌, List, [], ◌∷◌, length, slice_get, Option, Some, None, option_and_then, if◌then◌else◌}
use Rattle.std.specs.Option.{option_map, option_or}
use Rattle.lvish_syntax.specs.Words.{Word}
use Rattle.lvish_checks.specs.Text.{is_separator, is_foreign}
use Rattle.lvish_explain.specs.declared.mark.Mark.{Mark}

-- the columns in which words begin, where these bytes begin in column k, and the Bool tells whether a word may begin there
abbrev pub word_columns : ℕ → Bool → List ℕ → List ℕ
word_columns k may_begin [] = []
word_columns k may_begin (b ∷ bs) =
    if may_begin && not (is_separator b) then k ∷ word_columns (suc k) (is_separator b) bs else word_columns (suc k) (is_separator b) bs

-- the word at a place among those that begin in these columns
abbrev pub mark_at : List ℕ → List Word → ℕ → Option Mark
mark_at columns words k = option_and_then (λ c. option_map (λ w. record { column = c; length = length w }) (slice_get words k)) (slice_get columns k)

-- the word of a line at a place, or the first
abbrev pub mark_of : List ℕ → List Word → ℕ → Option Mark
mark_of line words k = option_or (mark_at (word_columns 1 true line) words k) (mark_at (word_columns 1 true line) words 0)

-- the first byte that no script has, where these bytes begin in column k
abbrev pub first_foreign : ℕ → List ℕ → Option Mark
first_foreign k [] = None
first_foreign k (b ∷ bs) = if is_foreign b then Some (record { column = k; length = 1 }) else first_foreign (suc k) bs

-- carets stand under a word: as many as it has bytes, from the column in which it begins
abbrev pub IsUnder : List ℕ → Word → Option Mark → Type 0
IsUnder line w None = ⊥
IsUnder line w (Some m) = (m.length ≡ length w) × (take m.length (drop (m.column - 1) line) ≡ w)
