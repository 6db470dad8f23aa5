-- What can stand in the lines of a script: names that are names, and numbers within 64 bits.
use Rattle.std.specs.Prelude.{◌^◌, Bool, true, false, ◌&&◌, nat_lt, List, [], ◌∷◌, ℤ, pos, negsuc}
use Rattle.std.specs.List.{list_all}
use Rattle.lvish_syntax.specs.Words.{is_name}
use Rattle.lvish_syntax.specs.Nested.{statements, all_nested}
use Rattle.lvish_syntax.specs.Syntax.{Term, Local, Number, LetValue, Same, Combined, Threshold, Any, In, Has, Least, Total, Declaration, Variable, Pool, Command, Let, Put, PutAt, Get, GetAt, Fork, Call, Handle, Freeze, FreezeEach, Statement, Block, Procedure}
use Rattle.lvish_syntax.specs.declared.statement.Statement.TheViews.{out-Statement}
use Rattle.lvish_syntax.specs.declared.statement.Statement.TheOpen as layer

-- from -2^63 to 2^63 - 1
abbrev pub is_within : ℤ → Bool
is_within (pos n) = nat_lt n (2 ^ 63)
is_within (negsuc n) = nat_lt n (2 ^ 63)

abbrev pub is_term_written : Term → Bool
is_term_written (Local x) = is_name x
is_term_written (Number z) = is_within z

abbrev pub is_value_written : LetValue → Bool
is_value_written (Same t) = is_term_written t
is_value_written (Combined a o b) = is_term_written a && is_term_written b

-- one number at least
abbrev pub are_members_written : List ℤ → Bool
are_members_written [] = false
are_members_written (z ∷ zs) = is_within z && list_all is_within zs

abbrev pub is_threshold_written : Threshold → Bool
is_threshold_written Any = true
is_threshold_written (In zs) = are_members_written zs
is_threshold_written (Has t) = is_term_written t
is_threshold_written (Least t) = is_term_written t
is_threshold_written (Total t) = is_term_written t

abbrev pub is_command_written : Command → Bool
is_command_written (Let x v) = is_name x && is_value_written v
is_command_written (Put v t) = is_name v && is_term_written t
is_command_written (PutAt v k t) = is_name v && (is_term_written k && is_term_written t)
is_command_written (Get x v r) = (is_name x && is_name v) && is_threshold_written r
is_command_written (GetAt x v k r) = (is_name x && is_name v) && (is_term_written k && is_threshold_written r)
is_command_written (Fork n ts) = is_name n && list_all is_term_written ts
is_command_written (Call n ts) = is_name n && list_all is_term_written ts
is_command_written (Handle p n) = is_name p && is_name n
is_command_written (Freeze x v ps) = (is_name x && is_name v) && list_all is_name ps
is_command_written (FreezeEach x v ps n) = (is_name x && is_name v) && (list_all is_name ps && is_name n)

abbrev pub is_declaration_written : Declaration → Bool
is_declaration_written (Variable n k) = is_name n
is_declaration_written (Pool p v) = is_name p && is_name v

-- a statement itself, apart from those within it
abbrev pub is_own_written : layer.Statement-F Statement Block → Bool
is_own_written (layer.Do c) = is_command_written c
is_own_written (layer.If t a) = is_term_written t
is_own_written (layer.IfElse t a b) = is_term_written t
is_own_written (layer.While t a) = is_term_written t

abbrev pub is_procedure_written : Procedure → Bool
is_procedure_written p = (is_name p.name && list_all is_name p.parameters) && list_all (λ s. is_own_written (out-Statement s)) (all_nested (statements p.body))
