-- What holds of every script.
use Rattle.std.specs.Prelude.{◌≡◌, ℕ, ◌≤◌, Bool, true, false, ◌&&◌, ◌==◌, nat_lt, int_le, codes, List, [], ◌∷◌, ◌++◌, length, map, Option, Some, None, is_some, if◌then◌else◌, ℤ, pos}
use Rattle.std.specs.Option.{option_map_or}
use Rattle.std.specs.Ordering.{int_eq}
use Rattle.std.specs.List.{list_any, list_all, flat_map}
use Rattle.std.specs.Str.{bytes_eq}
use Rattle.lvish_syntax.specs.Syntax.{Word, Version, SimpleKind, Cell, Set, Max, VariableKind, Simple, Map, Pair, Tally, Term, Local, Number, LetValue, Same, Combined, Threshold, Any, In, Has, Least, Total, Declaration, Variable, Pool, Statement, Block, Command, Let, Put, PutAt, Get, GetAt, Fork, Call, Handle, Freeze, FreezeEach, Procedure}
use Rattle.lvish_base.specs.declared.limits.TheConstants.{HIGHEST_LEVEL}
use Rattle.lvish_syntax.specs.declared.limits.TheConstants.{MOST}
use Rattle.lvish_syntax.specs.Name.{has_name, has_repeat, is_known}
use Rattle.lvish_syntax.specs.Written.{is_declaration_written, is_procedure_written}
use Rattle.lvish_syntax.specs.Version.{is_declaration_in, is_procedure_in}
use Rattle.lvish_syntax.specs.Nested.{statements, all_nested, all_depth}
use Rattle.lvish_syntax.specs.declared.statement.Statement.TheViews.{out-Statement}
use Rattle.lvish_syntax.specs.declared.statement.Statement.TheOpen.{Statement-F, Do, If, IfElse, While}

-- ---- what declarations say

abbrev pub variable_name : Declaration → List Word
variable_name (Variable n k) = n ∷ []
variable_name (Pool p v) = []

-- the names of the variables in order
abbrev pub variable_names : List Declaration → List Word
variable_names ds = flat_map variable_name ds

abbrev pub pool_name : Declaration → List Word
pool_name (Variable n k) = []
pool_name (Pool p v) = p ∷ []

-- the names of the pools in order
abbrev pub pool_names : List Declaration → List Word
pool_names ds = flat_map pool_name ds

-- the kind of the variable of this name, if it is declared
abbrev pub kind_of : Word → List Declaration → Option VariableKind
kind_of v [] = None
kind_of v (Variable n k ∷ ds) = if bytes_eq n v then Some k else kind_of v ds
kind_of v (Pool p w ∷ ds) = kind_of v ds

-- the variable of the pool of this name, if it is declared
abbrev pub variable_of : Word → List Declaration → Option Word
variable_of p [] = None
variable_of p (Variable n k ∷ ds) = variable_of p ds
variable_of p (Pool q v ∷ ds) = if bytes_eq q p then Some v else variable_of p ds

-- whether the declaration is a pool on a variable that the declarations have
abbrev pub is_pool_known : List Declaration → Declaration → Bool
is_pool_known ds (Variable n k) = true
is_pool_known ds (Pool p v) = has_name v (variable_names ds)

-- whether each pool's variable stands before it, after these declarations
abbrev pub follow_variables : List Declaration → List Declaration → Bool
follow_variables before [] = true
follow_variables before (d ∷ ds) = is_pool_known before d && follow_variables (before ++ d ∷ []) ds

-- ---- procedures and locals

-- the names of the procedures in order
abbrev pub procedure_names : List Procedure → List Word
procedure_names ps = map (λ p. p.name) ps

-- the local to which a command gives a value
abbrev pub command_binds : Command → List Word
command_binds (Let x v) = x ∷ []
command_binds (Get x v r) = x ∷ []
command_binds (GetAt x v k r) = x ∷ []
command_binds (Freeze x v ps) = x ∷ []
command_binds (FreezeEach x v ps n) = x ∷ []
command_binds c = []

-- the local to which a statement itself gives a value
abbrev pub own_binds : Statement-F Statement Block → List Word
own_binds (Do c) = command_binds c
own_binds s = []

-- the locals to which statements, and those within them, give values
abbrev pub binds : List Statement → List Word
binds ss = flat_map (λ s. own_binds (out-Statement s)) (all_nested ss)

-- the locals of a procedure: its parameters, and each that a statement gives a value
abbrev pub locals_of : Procedure → List Word
locals_of p = p.parameters ++ binds (statements p.body)

-- whether a procedure has this name and takes this many terms
abbrev pub takes : Word → ℕ → Procedure → Bool
takes n k p = bytes_eq p.name n && (length p.parameters == k)

-- ---- what fits a kind

-- the kind of a pair's side, where the term is the number 1 or 2
abbrev pub side_kind : SimpleKind → SimpleKind → Term → Option SimpleKind
side_kind a b (Local x) = None
side_kind a b (Number z) = if int_eq z (pos 1) then Some a else if int_eq z (pos 2) then Some b else None

-- the kind of what a put or get on a variable is about, where it fits: the variable itself, a cell at a map's key, a pair's side, or a tally's amount at a key, which grows as a counter does
abbrev pub kind_at : VariableKind → Option Term → Option SimpleKind
kind_at (Simple k) None = Some k
kind_at Map (Some t) = Some Cell
kind_at (Pair a b) (Some t) = side_kind a b t
kind_at Tally (Some t) = Some Max
kind_at k at = None

-- from 0 to the highest state of a counter
abbrev pub is_level : ℤ → Bool
is_level z = int_le (pos 0) z && int_le z (pos HIGHEST_LEVEL)

-- whether no two numbers differ
abbrev pub are_one : List ℤ → Bool
are_one [] = true
are_one (z ∷ zs) = list_all (int_eq z) zs

-- whether numbers are states of this kind: those of a counter are levels
abbrev pub are_of_kind : SimpleKind → List ℤ → Bool
are_of_kind Max zs = list_all is_level zs
are_of_kind k zs = true

-- whether a threshold is one of this kind
abbrev pub is_of_kind : SimpleKind → Threshold → Bool
is_of_kind Cell Any = true
is_of_kind k (In zs) = are_of_kind k zs
is_of_kind Set (Has t) = true
is_of_kind Max (Least t) = true
is_of_kind k r = false

-- whether any two different members of a threshold of this kind are incompatible
abbrev pub is_apart : SimpleKind → Threshold → Bool
is_apart Set (In zs) = are_one zs
is_apart Max (In zs) = are_one zs
is_apart k r = true

abbrev pub is_total_threshold : Threshold → Bool
is_total_threshold (Total t) = true
is_total_threshold r = false

-- whether a threshold is one of a whole variable: a total of a tally, and of no other kind
abbrev pub is_whole_read : VariableKind → Threshold → Bool
is_whole_read (Simple k) r = is_of_kind k r
is_whole_read Tally r = is_total_threshold r
is_whole_read k r = false

-- whether a threshold is one of what is read, a variable or what is at a place of it
abbrev pub is_read_of : VariableKind → Option Term → Threshold → Bool
is_read_of k None r = is_whole_read k r
is_read_of k (Some t) r = option_map_or (λ s. is_of_kind s r) (kind_at k (Some t)) false

-- ---- statements

-- the kind of what is read or written, where the variable is declared and it fits
abbrev pub kind_there : List Declaration → Word → Option Term → Option SimpleKind
kind_there ds v at = option_map_or (λ k. kind_at k at) (kind_of v ds) None

abbrev pub is_put_sound : List Declaration → Word → Option Term → Bool
is_put_sound ds v at = is_some (kind_there ds v at)

-- whether the threshold is one of what is read, where the variable is declared
abbrev pub is_get_of_kind : List Declaration → Word → Option Term → Threshold → Bool
is_get_of_kind ds v at r = option_map_or (λ k. is_read_of k at r) (kind_of v ds) false

-- whether any two different members of the threshold are incompatible, where what is read has a simple kind; a `total` lists nothing
abbrev pub is_get_apart : List Declaration → Word → Option Term → Threshold → Bool
is_get_apart ds v at r = option_map_or (λ k. is_apart k r) (kind_there ds v at) true

abbrev pub is_get_sound : List Declaration → Word → Option Term → Threshold → Bool
is_get_sound ds v at r = is_get_of_kind ds v at r && is_get_apart ds v at r

-- whether what a threshold names is known
abbrev pub is_threshold_known : List Word → Threshold → Bool
is_threshold_known locals (Has t) = is_known locals t
is_threshold_known locals (Least t) = is_known locals t
is_threshold_known locals (Total t) = is_known locals t
is_threshold_known locals r = true

-- whether the terms of a value are known
abbrev pub is_value_known : List Word → LetValue → Bool
is_value_known locals (Same t) = is_known locals t
is_value_known locals (Combined a o b) = is_known locals a && is_known locals b

-- whether a pool is one of the variable
abbrev pub is_pool_of : List Declaration → Word → Word → Bool
is_pool_of ds v p = option_map_or (λ w. bytes_eq w v) (variable_of p ds) false

-- whether the names in a command are declared, what it does fits the kind of its variable, and procedures get a term for each parameter
abbrev pub is_command_sound : List Declaration → List Procedure → List Word → Command → Bool
is_command_sound ds ps locals (Let x v) = has_name x locals && is_value_known locals v
is_command_sound ds ps locals (Put v t) = is_put_sound ds v None && is_known locals t
is_command_sound ds ps locals (PutAt v k t) = is_put_sound ds v (Some k) && is_known locals k && is_known locals t
is_command_sound ds ps locals (Get x v r) = has_name x locals && is_get_sound ds v None r && is_threshold_known locals r
is_command_sound ds ps locals (GetAt x v k r) = has_name x locals && is_get_sound ds v (Some k) r && is_known locals k && is_threshold_known locals r
is_command_sound ds ps locals (Fork n ts) = list_any (takes n (length ts)) ps && list_all (is_known locals) ts
is_command_sound ds ps locals (Call n ts) = list_any (takes n (length ts)) ps && list_all (is_known locals) ts
is_command_sound ds ps locals (Handle p n) = has_name p (pool_names ds) && list_any (takes n 2) ps
is_command_sound ds ps locals (Freeze x v pools) = has_name x locals && is_some (kind_of v ds) && list_all (is_pool_of ds v) pools
is_command_sound ds ps locals (FreezeEach x v pools n) = has_name x locals && is_some (kind_of v ds) && list_all (is_pool_of ds v) pools && list_any (takes n 2) ps

-- whether a statement itself is sound, apart from those within it
abbrev pub is_own_sound : List Declaration → List Procedure → List Word → Statement-F Statement Block → Bool
is_own_sound ds ps locals (Do c) = is_command_sound ds ps locals c
is_own_sound ds ps locals (If t a) = is_known locals t
is_own_sound ds ps locals (IfElse t a b) = is_known locals t
is_own_sound ds ps locals (While t a) = is_known locals t

-- whether statements, and those within them, are sound
abbrev pub are_sound : List Declaration → List Procedure → List Word → List Statement → Bool
are_sound ds ps locals ss = list_all (λ s. is_own_sound ds ps locals (out-Statement s)) (all_nested ss)

-- whether the statements of a procedure are sound
abbrev pub is_procedure_sound : List Declaration → List Procedure → Procedure → Bool
is_procedure_sound ds ps p = are_sound ds ps (locals_of p) (statements p.body)

-- what holds of the version, declarations and procedures of every script
pub record IsSound (version : Version) (ds : List Declaration) (ps : List Procedure) : Type 0 where
  pub statements_sound : list_all (is_procedure_sound ds ps) ps ≡ true
  pub parameters_differ : list_any (λ p. has_repeat p.parameters) ps ≡ false
  pub variables_differ : has_repeat (variable_names ds) ≡ false
  pub pools_differ : has_repeat (pool_names ds) ≡ false
  pub procedures_differ : has_repeat (procedure_names ps) ≡ false
  pub pools_known : list_all (is_pool_known ds) ds ≡ true
  pub few_variables : length (variable_names ds) ≤ MOST
  pub few_pools : length (pool_names ds) ≤ MOST
  pub few_procedures : length ps ≤ MOST
  -- no more than 64 blocks stand one in the other, the procedure the first of them
  pub shallow : list_all (λ p. nat_lt (all_depth (statements p.body)) MOST) ps ≡ true
  pub pools_follow : follow_variables [] ds ≡ true
  pub declarations_written : list_all is_declaration_written ds ≡ true
  pub procedures_written : list_all is_procedure_written ps ≡ true
  pub declarations_versioned : list_all (is_declaration_in version) ds ≡ true
  pub procedures_versioned : list_all (is_procedure_in version) ps ≡ true
  pub main_stands : list_any (takes (codes "main") 0) ps ≡ true
