-- The names that lines declare, each with the number of its line.
use Rattle.std.specs.Prelude.{ℕ, suc, Bool, true, false, ◌||◌, nat_le, codes, List, [], ◌∷◌, ◌++◌, map, Option, Some, None, if◌then◌else◌}
use Rattle.std.specs.Str.{bytes_eq}
use Rattle.lvish_syntax.specs.Words.{Word}
use Rattle.lvish_checks.specs.Text.{words_of}
use Rattle.lvish_explain.specs.declared.known.Space.{Space}
use Rattle.lvish_explain.specs.declared.known.Space.TheVariants.{Variable, Pool, Procedure, Local}
use Rattle.lvish_explain.specs.declared.known.Known.{Known}

-- a name and its line
abbrev pub seen : Known → Word × ℕ
seen k = (k.name.now, k.line)

-- whether a line that begins with this word declares a variable
abbrev pub declares_variable : Word → Bool
declares_variable w = bytes_eq w (codes "cell") || bytes_eq w (codes "set") || bytes_eq w (codes "max") || bytes_eq w (codes "map") || bytes_eq w (codes "pair") || bytes_eq w (codes "tally")

-- what a line that begins with this word declares
abbrev pub space_of : Word → Option Space
space_of w =
    if declares_variable w then Some Variable else
    if bytes_eq w (codes "pool") then Some Pool else
    if bytes_eq w (codes "proc") then Some Procedure else None

abbrev pub is_same_space : Option Space → Space → Bool
is_same_space (Some Variable) Variable = true
is_same_space (Some Pool) Pool = true
is_same_space (Some Procedure) Procedure = true
is_same_space (Some Local) Local = true
is_same_space o s = false

-- the name that a line with these words declares in a space
abbrev pub declared_by : Space → ℕ → List Word → List (Word × ℕ)
declared_by s n (w ∷ name ∷ ws) = if is_same_space (space_of w) s then (name, n) ∷ [] else []
declared_by s n ws = []

-- the names that lines declare in a space, the first of them with this number
abbrev pub declared_from : ℕ → Space → List (List ℕ) → List (Word × ℕ)
declared_from n s [] = []
declared_from n s (line ∷ lines) = declared_by s n (words_of line) ++ declared_from (suc n) s lines

-- ---- locals

abbrev pub is_procedure_line : List Word → Bool
is_procedure_line [] = false
is_procedure_line (w ∷ ws) = bytes_eq w (codes "proc")

abbrev pub binds_local : Word → Bool
binds_local w = bytes_eq w (codes "let") || bytes_eq w (codes "get") || bytes_eq w (codes "freeze")

-- the locals that a line with these words makes
abbrev pub locals_by : ℕ → List Word → List (Word × ℕ)
locals_by n (w ∷ name ∷ ws) =
    if bytes_eq w (codes "proc") then map (λ x. (x, n)) ws else
    if binds_local w then (name, n) ∷ [] else []
locals_by n ws = []

-- the locals of the last procedure that begins on the line with the number m or above it, where so many were made by the lines above the first of these
abbrev pub locals_from : ℕ → ℕ → List (Word × ℕ) → List (List ℕ) → List (Word × ℕ)
locals_from n m found [] = found
locals_from n m found (line ∷ lines) =
    if is_procedure_line (words_of line) then (if nat_le (suc m) n then found else locals_from (suc n) m (locals_by n (words_of line)) lines)
    else locals_from (suc n) m (found ++ locals_by n (words_of line)) lines

-- the names of a space that the line with this number may use
abbrev pub names_of : Space → List (List ℕ) → ℕ → List (Word × ℕ)
names_of Local lines number = locals_from 1 number [] lines
names_of s lines number = declared_from 1 s lines
