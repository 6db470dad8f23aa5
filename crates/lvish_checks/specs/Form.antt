-- What a line says: the forms of all versions. The check of bad lines says which of them stand in a version.
use Rattle.std.specs.Prelude.{ℕ, Bool, false, not, ◌||◌, ◌&&◌, ◌==◌, ◌^◌, nat_lt, nat_le, codes, List, [], ◌∷◌, length, drop, take_while, Option, Some, None, unwrap_or, option_and_then, is_none, if◌then◌else◌, ℤ, pos}
use Rattle.std.specs.Option.{option_map, option_or}
use Rattle.std.specs.List.{list_any, list_all}
use Rattle.std.specs.Str.{bytes_eq, all_ascii_digits}
use Rattle.std.specs.Str.Parse.{digits_value}
use lib.IntN.{neg_ℤ}
use Rattle.lvish_syntax.specs.Words.{Word, is_digit, is_name}
use Rattle.lvish_checks.specs.Vocabulary.{SimpleKind, Cell, Set, Max, VariableKind, Simple, Map, Pair, Tally, Operator, Add, Subtract, Multiply, Divide, Remainder, Less, Equal, Term, Local, Number, LetValue, Same, Combined, Threshold, Any, In, Has, Least, Total, Variable, Pool, Command, Line, Blank, Bad, Versioned as Version, Declare, Proc, Do, If, While, Else, End}
use Rattle.lvish_syntax.specs.declared.command.Command.TheVariants as command

-- ---- numbers and terms

-- begins with a digit, or with a minus and isn't a minus alone
abbrev pub is_number_word : Word → Bool
is_number_word [] = false
is_number_word (b ∷ bs) = is_digit b || (b == 45 && not (length bs == 0))

abbrev pub is_numeral : List ℕ → Bool
is_numeral ds = not (length ds == 0) && all_ascii_digits ds

-- the number that a word writes: an optional minus and digits, within 64 bits
abbrev pub number_spelled : Word → Option ℤ
number_spelled [] = None
number_spelled (b ∷ bs) =
    if b == 45 then (if is_numeral bs && nat_le (digits_value 10 bs) (2 ^ 63) then Some (neg_ℤ (pos (digits_value 10 bs))) else None)
    else (if is_numeral (b ∷ bs) && nat_lt (digits_value 10 (b ∷ bs)) (2 ^ 63) then Some (pos (digits_value 10 (b ∷ bs))) else None)

-- a number word that is no number
abbrev pub is_bad_number : Word → Bool
is_bad_number w = is_number_word w && is_none (number_spelled w)

-- the value of a number word; one that is no number is caught before its value is used
abbrev pub value_of_number : Word → ℤ
value_of_number w = unwrap_or (number_spelled w) (pos 0)

-- n: a number word
abbrev pub number_word : Word → Option ℤ
number_word w = if is_number_word w then Some (value_of_number w) else None

-- T: a name or a number word
abbrev pub term_of : Word → Option Term
term_of w = if is_number_word w then Some (Number (value_of_number w)) else if is_name w then Some (Local w) else None

-- the values of words, where each has one
abbrev pub all_of : {X : Type 0} → (Word → Option X) → List Word → Option (List X)
all_of f [] = Some []
all_of f (w ∷ ws) = option_and_then (λ x. option_map (λ xs. x ∷ xs) (all_of f ws)) (f w)

abbrev pub terms_of : List Word → Option (List Term)
terms_of ws = all_of term_of ws

abbrev pub numbers_of : List Word → Option (List ℤ)
numbers_of ws = all_of number_word ws

-- a value in the place of words of just this number
abbrev pub only : {X : Type 0} → (Word → Option X) → List Word → Option X
only f (w ∷ []) = f w
only f ws = None

-- K: cell, set or max
abbrev pub simple_kind : Word → Option SimpleKind
simple_kind w =
    if bytes_eq w (codes "cell") then Some Cell else
    if bytes_eq w (codes "set") then Some Set else
    if bytes_eq w (codes "max") then Some Max else None

-- OP
abbrev pub operator_of : Word → Option Operator
operator_of w =
    if bytes_eq w (codes "+") then Some Add else
    if bytes_eq w (codes "-") then Some Subtract else
    if bytes_eq w (codes "*") then Some Multiply else
    if bytes_eq w (codes "/") then Some Divide else
    if bytes_eq w (codes "%") then Some Remainder else
    if bytes_eq w (codes "<") then Some Less else
    if bytes_eq w (codes "=") then Some Equal else None

-- ---- declarations

abbrev pub or_bad : Option Line → Line
or_bad o = unwrap_or o Bad

-- a name alone, as a variable of the kind
unfoldable pub variable_line : VariableKind → List Word → Line
variable_line k (n ∷ []) = if is_name n then Declare (Variable n k) else Bad
variable_line k ws = Bad

abbrev pub pair_kind : Word → Word → Option VariableKind
pair_kind a b = option_and_then (λ k. option_map (λ l. Pair k l) (simple_kind b)) (simple_kind a)

unfoldable pub pair_line : List Word → Line
pair_line (n ∷ a ∷ b ∷ []) = if is_name n then or_bad (option_map (λ k. Declare (Variable n k)) (pair_kind a b)) else Bad
pair_line ws = Bad

unfoldable pub pool_line : List Word → Line
pool_line (p ∷ v ∷ []) = if is_name p && is_name v then Declare (Pool p v) else Bad
pool_line ws = Bad

unfoldable pub proc_line : List Word → Line
proc_line (n ∷ xs) = if is_name n && list_all is_name xs then Proc n xs else Bad
proc_line [] = Bad

-- ---- statements of one line

abbrev pub value_of : List Word → Option LetValue
value_of (a ∷ []) = option_map (λ t. Same t) (term_of a)
value_of (a ∷ o ∷ b ∷ []) = option_and_then (λ s. option_and_then (λ p. option_map (λ t. Combined s p t) (term_of b)) (operator_of o)) (term_of a)
value_of ws = None

unfoldable pub let_line : List Word → Line
let_line (x ∷ ws) = if is_name x then or_bad (option_map (λ v. Do (command.Let x v)) (value_of ws)) else Bad
let_line [] = Bad

abbrev pub put_of : Word → List Word → Option Command
put_of v (t ∷ []) = option_map (λ a. command.Put v a) (term_of t)
put_of v (k ∷ t ∷ []) = option_and_then (λ a. option_map (λ b. command.PutAt v a b) (term_of t)) (term_of k)
put_of v ws = None

unfoldable pub put_line : List Word → Line
put_line (v ∷ ws) = if is_name v then or_bad (option_map (λ c. Do c) (put_of v ws)) else Bad
put_line [] = Bad

-- R: any, in and one or more numbers, has, least or total and a term
abbrev pub threshold_after : Word → List Word → Option Threshold
threshold_after k ws =
    if bytes_eq k (codes "any") then (if length ws == 0 then Some Any else None) else
    if bytes_eq k (codes "in") then (if length ws == 0 then None else option_map (λ zs. In zs) (numbers_of ws)) else
    if bytes_eq k (codes "has") then option_map (λ t. Has t) (only term_of ws) else
    if bytes_eq k (codes "least") then option_map (λ t. Least t) (only term_of ws) else
    if bytes_eq k (codes "total") then option_map (λ t. Total t) (only term_of ws) else None

abbrev pub threshold_of : List Word → Option Threshold
threshold_of [] = None
threshold_of (k ∷ ws) = threshold_after k ws

-- a place and a threshold
abbrev pub get_at : Word → Word → List Word → Option Command
get_at x v [] = None
get_at x v (k ∷ ws) = option_and_then (λ t. option_map (λ r. command.GetAt x v t r) (threshold_of ws)) (term_of k)

-- a threshold, or one with a place before it. No words are both: of the words that begin a threshold, only total is a term, and no threshold is a single term
abbrev pub get_of : Word → Word → List Word → Option Command
get_of x v ws = option_or (option_map (λ r. command.Get x v r) (threshold_of ws)) (get_at x v ws)

unfoldable pub get_line : List Word → Line
get_line (x ∷ v ∷ ws) = if is_name x && is_name v then or_bad (option_map (λ c. Do c) (get_of x v ws)) else Bad
get_line ws = Bad

-- a name and terms
unfoldable pub run_line : (Word → List Term → Command) → List Word → Line
run_line f (n ∷ ts) = if is_name n then or_bad (option_map (λ xs. Do (f n xs)) (terms_of ts)) else Bad
run_line f [] = Bad

unfoldable pub handle_line : List Word → Line
handle_line (p ∷ n ∷ []) = if is_name p && is_name n then Do (command.Handle p n) else Bad
handle_line ws = Bad

-- what follows the pools of a freeze: nothing, or each and a name
abbrev pub freeze_each : Word → Word → List Word → List Word → Option Command
freeze_each x v ps [] = Some (command.Freeze x v ps)
freeze_each x v ps (k ∷ n ∷ []) = if bytes_eq k (codes "each") && is_name n then Some (command.FreezeEach x v ps n) else None
freeze_each x v ps ws = None

-- one or more names, up to a word that is none
abbrev pub freeze_after : Word → Word → List Word → Option Command
freeze_after x v ws =
    if length (take_while is_name ws) == 0 then None
    else freeze_each x v (take_while is_name ws) (drop (length (take_while is_name ws)) ws)

abbrev pub freeze_of : Word → Word → List Word → Option Command
freeze_of x v [] = Some (command.Freeze x v [])
freeze_of x v (k ∷ ws) = if bytes_eq k (codes "after") then freeze_after x v ws else freeze_each x v [] (k ∷ ws)

unfoldable pub freeze_line : List Word → Line
freeze_line (x ∷ v ∷ ws) = if is_name x && is_name v then or_bad (option_map (λ c. Do c) (freeze_of x v ws)) else Bad
freeze_line ws = Bad

-- ---- blocks

-- a term alone
unfoldable pub block_line : (Term → Line) → List Word → Line
block_line f ws = or_bad (option_map f (only term_of ws))

-- no further word
unfoldable pub bare_line : Line → List Word → Line
bare_line l [] = l
bare_line l ws = Bad

-- ---- the version

unfoldable pub version_line : List Word → Line
version_line (n ∷ []) = if bytes_eq n (codes "2") then Version else Bad
version_line ws = Bad

-- ---- lines

abbrev pub declaration_form : Word → List Word → Line
declaration_form k ws =
    if bytes_eq k (codes "cell") then variable_line (Simple Cell) ws else
    if bytes_eq k (codes "set") then variable_line (Simple Set) ws else
    if bytes_eq k (codes "max") then variable_line (Simple Max) ws else
    if bytes_eq k (codes "map") then variable_line Map ws else
    if bytes_eq k (codes "pair") then pair_line ws else
    if bytes_eq k (codes "tally") then variable_line Tally ws else
    if bytes_eq k (codes "pool") then pool_line ws else
    if bytes_eq k (codes "proc") then proc_line ws else Bad

abbrev pub command_form : Word → List Word → Line
command_form k ws =
    if bytes_eq k (codes "let") then let_line ws else
    if bytes_eq k (codes "put") then put_line ws else
    if bytes_eq k (codes "get") then get_line ws else
    if bytes_eq k (codes "fork") then run_line (λ n ts. command.Fork n ts) ws else
    if bytes_eq k (codes "call") then run_line (λ n ts. command.Call n ts) ws else
    if bytes_eq k (codes "handle") then handle_line ws else
    if bytes_eq k (codes "freeze") then freeze_line ws else Bad

abbrev pub block_form : Word → List Word → Line
block_form k ws =
    if bytes_eq k (codes "if") then block_line (λ t. If t) ws else
    if bytes_eq k (codes "while") then block_line (λ t. While t) ws else
    if bytes_eq k (codes "else") then bare_line Else ws else
    if bytes_eq k (codes "end") then bare_line End ws else Bad

-- the words that begin declarations, commands and blocks
abbrev pub begins_declaration : Word → Bool
begins_declaration k = list_any (bytes_eq k) (codes "cell" ∷ codes "set" ∷ codes "max" ∷ codes "map" ∷ codes "pair" ∷ codes "tally" ∷ codes "pool" ∷ codes "proc" ∷ [])

abbrev pub begins_command : Word → Bool
begins_command k = list_any (bytes_eq k) (codes "let" ∷ codes "put" ∷ codes "get" ∷ codes "fork" ∷ codes "call" ∷ codes "handle" ∷ codes "freeze" ∷ [])

-- what a line with these words says: Bad where they have none of the forms
abbrev pub line_of : List Word → Line
line_of [] = Blank
line_of (k ∷ ws) =
    if begins_declaration k then declaration_form k ws else
    if begins_command k then command_form k ws else
    if bytes_eq k (codes "lvish") then version_line ws else block_form k ws
