-- The words that each form of a line is written with.
use Rattle.std.specs.Prelude.{◌≡◌, ◌⊎◌, codes, List, [], ◌∷◌, ◌++◌, map, Some, ℤ}
use Rattle.std.specs.List.{AllZip}
use Rattle.std.specs.Fmt.{signed_decimal}
use Rattle.lvish_checks.specs.Vocabulary.{Word, SimpleKind, Cell, Set, Max, Simple, Map, Pair, Tally, Operator, Add, Subtract, Multiply, Divide, Remainder, Less, Equal, Term, Local, Number, LetValue, Same, Combined, Threshold, Any, In, Has, Least, Total, Declaration, Variable, Pool, Command, Let, Put, PutAt, Get, GetAt, Fork, Call, Handle, Freeze, FreezeEach, Line, Blank, Bad, Versioned as Version, Declare, Proc, Do, If, While, Else, End}
use Rattle.lvish_checks.specs.Form.{number_spelled}

-- a number has its shortest decimal form
abbrev pub term_word : Term → Word
term_word (Local x) = x
term_word (Number z) = signed_decimal z

abbrev pub kind_word : SimpleKind → Word
kind_word Cell = codes "cell"
kind_word Set = codes "set"
kind_word Max = codes "max"

abbrev pub operator_word : Operator → Word
operator_word Add = codes "+"
operator_word Subtract = codes "-"
operator_word Multiply = codes "*"
operator_word Divide = codes "/"
operator_word Remainder = codes "%"
operator_word Less = codes "<"
operator_word Equal = codes "="

abbrev pub value_words : LetValue → List Word
value_words (Same t) = term_word t ∷ []
value_words (Combined a o b) = term_word a ∷ operator_word o ∷ term_word b ∷ []

abbrev pub threshold_words : Threshold → List Word
threshold_words Any = codes "any" ∷ []
threshold_words (In zs) = codes "in" ∷ map signed_decimal zs
threshold_words (Has t) = codes "has" ∷ term_word t ∷ []
threshold_words (Least t) = codes "least" ∷ term_word t ∷ []
threshold_words (Total t) = codes "total" ∷ term_word t ∷ []

abbrev pub pool_words : List Word → List Word
pool_words [] = []
pool_words (p ∷ ps) = codes "after" ∷ p ∷ ps

abbrev pub command_words : Command → List Word
command_words (Let x v) = codes "let" ∷ x ∷ value_words v
command_words (Put v t) = codes "put" ∷ v ∷ term_word t ∷ []
command_words (PutAt v k t) = codes "put" ∷ v ∷ term_word k ∷ term_word t ∷ []
command_words (Get x v r) = codes "get" ∷ x ∷ v ∷ threshold_words r
command_words (GetAt x v k r) = codes "get" ∷ x ∷ v ∷ term_word k ∷ threshold_words r
command_words (Fork n ts) = codes "fork" ∷ n ∷ map term_word ts
command_words (Call n ts) = codes "call" ∷ n ∷ map term_word ts
command_words (Handle p n) = codes "handle" ∷ p ∷ n ∷ []
command_words (Freeze x v ps) = codes "freeze" ∷ x ∷ v ∷ pool_words ps
command_words (FreezeEach x v ps n) = codes "freeze" ∷ x ∷ v ∷ (pool_words ps ++ codes "each" ∷ n ∷ [])

abbrev pub declaration_words : Declaration → List Word
declaration_words (Variable n (Simple k)) = kind_word k ∷ n ∷ []
declaration_words (Variable n Map) = codes "map" ∷ n ∷ []
declaration_words (Variable n (Pair a b)) = codes "pair" ∷ n ∷ kind_word a ∷ kind_word b ∷ []
declaration_words (Variable n Tally) = codes "tally" ∷ n ∷ []
declaration_words (Pool p v) = codes "pool" ∷ p ∷ v ∷ []

-- the words of a line; a script has no line that is blank or bad
abbrev pub line_words : Line → List Word
line_words Blank = []
line_words Bad = []
line_words Version = codes "lvish" ∷ codes "2" ∷ []
line_words (Declare d) = declaration_words d
line_words (Proc n xs) = codes "proc" ∷ n ∷ xs
line_words (Do c) = command_words c
line_words (If t) = codes "if" ∷ term_word t ∷ []
line_words (While t) = codes "while" ∷ term_word t ∷ []
line_words Else = codes "else" ∷ []
line_words End = codes "end" ∷ []

-- ---- words that agree

-- the same word, or a numeral of the same number
abbrev pub AgreesWith : Word → Word → Type 0
AgreesWith v w = (v ≡ w) ⊎ ((z : ℤ) × (number_spelled v ≡ Some z) × (number_spelled w ≡ Some z))

-- as many words, and each agrees with that in its place
abbrev pub Agree : List Word → List Word → Type 0
Agree vs ws = AllZip AgreesWith vs ws
