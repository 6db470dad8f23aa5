-- The lines and words of a text.
use Rattle.std.specs.Prelude.{ℕ, ◌-◌, Bool, false, not, ◌||◌, ◌&&◌, ◌==◌, nat_le, List, [], ◌∷◌, length, take, slice_index, filter, take_while, if◌then◌else◌}
use Rattle.std.specs.List.{slice_split}
use Rattle.lvish_syntax.specs.Words.{Word}

-- without the last line feed, if the text ends in one
abbrev pub without_last_feed : List ℕ → List ℕ
without_last_feed text = if slice_index text (length text - 1) == 10 then take (length text - 1) text else text

-- the pieces between line feeds; an empty piece after the last one is no line
abbrev pub lines_of : List ℕ → List (List ℕ)
lines_of text = if length text == 0 then [] else slice_split (λ b. b == 10) (without_last_feed text)

-- space, tab and CR
abbrev pub is_separator : ℕ → Bool
is_separator b = b == 32 || b == 9 || b == 13

abbrev pub is_comment : Word → Bool
is_comment [] = false
is_comment (b ∷ bs) = b == 35

-- the words of a line, up to the first that begins a comment
abbrev pub words_of : List ℕ → List Word
words_of line = take_while (λ w. not (is_comment w)) (filter (λ w. not (length w == 0)) (slice_split is_separator line))

-- a byte that no script has
abbrev pub is_foreign : ℕ → Bool
is_foreign b = not (b == 9 || b == 10 || b == 13 || (nat_le 32 b && nat_le b 126))
