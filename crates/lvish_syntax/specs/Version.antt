-- What stands in the scripts of a version: tallies and totals in version 2 alone, and in it no name that is one of its words.
use Rattle.std.specs.Prelude.{Bool, true, false, not, ◌&&◌, codes, List, [], ◌∷◌}
use Rattle.std.specs.List.{list_any, list_all}
use Rattle.std.specs.Str.{bytes_eq}
use Rattle.lvish_syntax.specs.Syntax.{Word, Version, One, Two, VariableKind, Tally, Term, Local, Number, LetValue, Same, Combined, Threshold, Any, In, Has, Least, Total, Declaration, Variable, Pool, Command, Let, Put, PutAt, Get, GetAt, Fork, Call, Handle, Freeze, FreezeEach, Statement, Block, Procedure}
use Rattle.lvish_syntax.specs.Nested.{statements, all_nested}
use Rattle.lvish_syntax.specs.declared.statement.Statement.TheViews.{out-Statement}
use Rattle.lvish_syntax.specs.declared.statement.Statement.TheOpen as layer

-- the words that version 2 reserves beside those of version 1
abbrev pub later_words : List Word
later_words = codes "lvish" ∷ codes "tally" ∷ codes "total" ∷ []

abbrev pub is_later : Word → Bool
is_later x = list_any (bytes_eq x) later_words

abbrev pub is_second : Version → Bool
is_second One = false
is_second Two = true

-- whether a name of version 1 is a name in this version
abbrev pub is_name_in : Version → Word → Bool
is_name_in One x = true
is_name_in Two x = not (is_later x)

abbrev pub is_kind_in : Version → VariableKind → Bool
is_kind_in v Tally = is_second v
is_kind_in v k = true

abbrev pub is_term_in : Version → Term → Bool
is_term_in v (Local x) = is_name_in v x
is_term_in v (Number z) = true

abbrev pub is_value_in : Version → LetValue → Bool
is_value_in v (Same t) = is_term_in v t
is_value_in v (Combined a o b) = is_term_in v a && is_term_in v b

abbrev pub is_threshold_in : Version → Threshold → Bool
is_threshold_in v Any = true
is_threshold_in v (In zs) = true
is_threshold_in v (Has t) = is_term_in v t
is_threshold_in v (Least t) = is_term_in v t
is_threshold_in v (Total t) = is_second v && is_term_in v t

abbrev pub is_command_in : Version → Command → Bool
is_command_in v (Let x a) = is_name_in v x && is_value_in v a
is_command_in v (Put x t) = is_name_in v x && is_term_in v t
is_command_in v (PutAt x k t) = is_name_in v x && is_term_in v k && is_term_in v t
is_command_in v (Get x y r) = is_name_in v x && is_name_in v y && is_threshold_in v r
is_command_in v (GetAt x y k r) = is_name_in v x && is_name_in v y && is_term_in v k && is_threshold_in v r
is_command_in v (Fork n ts) = is_name_in v n && list_all (is_term_in v) ts
is_command_in v (Call n ts) = is_name_in v n && list_all (is_term_in v) ts
is_command_in v (Handle p n) = is_name_in v p && is_name_in v n
is_command_in v (Freeze x y ps) = is_name_in v x && is_name_in v y && list_all (is_name_in v) ps
is_command_in v (FreezeEach x y ps n) = is_name_in v x && is_name_in v y && list_all (is_name_in v) ps && is_name_in v n

abbrev pub is_declaration_in : Version → Declaration → Bool
is_declaration_in v (Variable n k) = is_name_in v n && is_kind_in v k
is_declaration_in v (Pool p w) = is_name_in v p && is_name_in v w

-- a statement itself, apart from those within it
abbrev pub is_own_in : Version → layer.Statement-F Statement Block → Bool
is_own_in v (layer.Do c) = is_command_in v c
is_own_in v (layer.If t a) = is_term_in v t
is_own_in v (layer.IfElse t a b) = is_term_in v t
is_own_in v (layer.While t a) = is_term_in v t

abbrev pub is_procedure_in : Version → Procedure → Bool
is_procedure_in v p = (is_name_in v p.name && list_all (is_name_in v) p.parameters) && list_all (λ s. is_own_in v (out-Statement s)) (all_nested (statements p.body))
