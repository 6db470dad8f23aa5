-- The formatted text of a script.
use Rattle.std.specs.Prelude.{ℕ, zero, suc, ◌-◌, Bool, true, ◌&&◌, ◌||◌, ◌==◌, codes, List, [], ◌∷◌, ◌++◌, if◌then◌else◌}
use Rattle.std.specs.List.{flat_map}
use Rattle.std.specs.Str.{bytes_eq}
use Rattle.lvish_syntax.specs.Words.{Word}
use Rattle.lvish_checks.specs.Text.{lines_of, words_of, is_separator}
use Rattle.lvish_checks.specs.Checks.{is_nil}
use Rattle.lvish_script.specs.Canonical.{words_joined}

-- ---- comments

-- bytes without the separators at their end
abbrev pub trimmed : List ℕ → List ℕ
trimmed [] = []
trimmed (b ∷ bs) = if is_separator b && is_nil (trimmed bs) then [] else b ∷ trimmed bs

-- from the first word that begins with # on, where the Bool tells whether a word may begin here
abbrev pub comment_from : Bool → List ℕ → List ℕ
comment_from may_begin [] = []
comment_from may_begin (b ∷ bs) = if may_begin && b == 35 then b ∷ bs else comment_from (is_separator b) bs

-- the comment of a line; nothing where it has none
abbrev pub comment_of : List ℕ → List ℕ
comment_of line = trimmed (comment_from true line)

abbrev pub unless_empty : Word → List Word
unless_empty [] = []
unless_empty w = w ∷ []

-- the words of a line, and its comment behind them
abbrev pub pieces_of : List ℕ → List Word
pieces_of line = words_of line ++ unless_empty (comment_of line)

-- ---- lines

-- two spaces for each block
abbrev pub indent : ℕ → List ℕ
indent zero = []
indent (suc n) = 32 ∷ 32 ∷ indent n

-- before how many blocks a line with this first word stands, where so many are open
abbrev pub margin : ℕ → Word → ℕ
margin d w =
    if bytes_eq w (codes "proc") then 0 else
    if bytes_eq w (codes "end") || bytes_eq w (codes "else") then d - 1 else d

-- pieces with one space between them, behind their indent; a line without any stays empty
abbrev pub formatted_line : ℕ → List Word → List ℕ
formatted_line d [] = []
formatted_line d (w ∷ ws) = indent (margin d w) ++ words_joined (w ∷ ws)

-- how many blocks are open below a line with these pieces
abbrev pub depth_after : ℕ → List Word → ℕ
depth_after d [] = d
depth_after d (w ∷ ws) =
    if bytes_eq w (codes "proc") then 1 else
    if bytes_eq w (codes "if") || bytes_eq w (codes "while") then suc d else
    if bytes_eq w (codes "end") then d - 1 else d

-- lines in order, of which the first stands where so many blocks are open
abbrev pub formatted_lines : ℕ → List (List ℕ) → List (List ℕ)
formatted_lines d [] = []
formatted_lines d (line ∷ lines) = formatted_line d (pieces_of line) ∷ formatted_lines (depth_after d (pieces_of line)) lines

-- a line with a line feed at its end
abbrev pub ended : List ℕ → List ℕ
ended line = line ++ 10 ∷ []

-- each line of a text in its layout
abbrev pub formatted : List ℕ → List ℕ
formatted text = flat_map ended (formatted_lines 0 (lines_of text))
