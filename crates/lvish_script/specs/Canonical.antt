-- The canonical text of a script.
use Rattle.std.specs.Prelude.{ℕ, not, List, [], ◌∷◌, ◌++◌, map, filter}
use Rattle.std.specs.List.{flat_map}
use Rattle.lvish_script.specs.Vocabulary.{Word, Line}
use Rattle.lvish_syntax.specs.declared.script.Script.{Script}
use Rattle.lvish_checks.specs.Checks.{parts_of, is_nil}
use Rattle.lvish_checks.specs.Spelling.{line_words}
use Rattle.lvish_script.specs.Spells.{version_lines, script_lines}

-- words, each after a space
abbrev pub spaced : List Word → List ℕ
spaced ws = flat_map (λ w. 32 ∷ w) ws

-- words, separated by one space
abbrev pub words_joined : List Word → List ℕ
words_joined [] = []
words_joined (w ∷ ws) = w ++ spaced ws

-- a line, ended by a line feed
abbrev pub line_text : Line → List ℕ
line_text l = words_joined (line_words l) ++ 10 ∷ []

-- lines in order
abbrev pub lines_text : List Line → List ℕ
lines_text ls = flat_map line_text ls

-- the lines of a script in order, that of its version first
abbrev pub canonical_lines : Script → List Line
canonical_lines s = version_lines s.version ++ script_lines s.declarations s.procedures

abbrev pub text_of : Script → List ℕ
text_of s = lines_text (canonical_lines s)

-- ---- words

-- the words of a text, line by line, without the lines that have none
abbrev pub text_words : List ℕ → List (List Word)
text_words text = filter (λ ws. not (is_nil ws)) (parts_of text).words

-- the words that a script is written with, line by line
abbrev pub script_words : Script → List (List Word)
script_words s = map line_words (canonical_lines s)
