-- The flat code of a script.
use Rattle.std.specs.Prelude.{◌≡◌, ℕ, ◌+◌, codes, pos, List, [], ◌∷◌, ◌++◌, length, map, Option, Some, None, if◌then◌else◌}
use Rattle.std.specs.List.{flat_map, slice_get}
use Rattle.std.specs.Ordering.{int_eq}
use Rattle.lvish_syntax.specs.Nested.{statements, nested}
use Rattle.lvish_syntax.specs.Sound.{variable_names, pool_names, procedure_names, own_binds, locals_of}
use Rattle.lvish_code.specs.Vocabulary.{Word, Variable, Pool, Local, Number, Same, Combined, Whole, Entry, Side, Amount, Total, Any, In, At, SimpleKind, Cell, VariableKind, Simple, Map, Pair, Tally, Term, LetValue, Threshold, Declaration, Command, Statement, out-Statement, Procedure, Script, Operand, Expression, Target, First, Second, Wanted, Put, Get, Fork, Handle, Freeze, Instruction, Ask, Let, Call, SkipIfZero, BackUnlessZero, GoOn, Return, Routine}
use Rattle.lvish_syntax.specs.declared.term.Term.TheVariants as t
use Rattle.lvish_syntax.specs.declared.let_value.LetValue.TheVariants as v
use Rattle.lvish_syntax.specs.declared.threshold.Threshold.TheVariants as r
use Rattle.lvish_syntax.specs.declared.command.Command.TheVariants as c
use Rattle.lvish_syntax.specs.declared.statement.Statement.{Do, If', IfElse', While', Row_of-Statement, end_of-Statement, more_of-Statement}
use Rattle.lvish_code.specs.Flat.{Code}
use Rattle.lvish_code.specs.Numbering.{name_number, each_once}

-- ---- names and numbers

-- the names that statements use, each with its number in its list, and the kinds of the variables
pub record Names : Type 0 where
  pub variables : List Word
  pub kinds : List VariableKind
  pub pools : List Word
  pub procedures : List Word
  pub locals : List Word

-- the locals of a procedure, each once: its parameters, and the others in the order of its statements
abbrev pub local_names : Procedure → List Word
local_names p = each_once (locals_of p)

-- the locals to which a statement, and those within it, give values
abbrev pub binds_of : Statement → List Word
binds_of s = flat_map (λ s. own_binds (out-Statement s)) (nested s)

-- the kind of a declared variable
abbrev pub declared_kind : Declaration → List VariableKind
declared_kind (Variable n k) = k ∷ []
declared_kind (Pool p v) = []

-- the kinds of the variables in order
abbrev pub variable_kinds : List Declaration → List VariableKind
variable_kinds ds = flat_map declared_kind ds

-- the names in a procedure of a script
abbrev pub names_of : Script → Procedure → Names
names_of script p = record {
  variables = variable_names script.declarations;
  kinds = variable_kinds script.declarations;
  pools = pool_names script.declarations;
  procedures = procedure_names script.procedures;
  locals = local_names p;
}

-- ---- parts of instructions

-- what stands for a term
abbrev pub operand_of : Names → Term → Operand
operand_of names (t.Local x) = Local (name_number names.locals x)
operand_of names (t.Number n) = Number n

-- what a `let` gives
abbrev pub expression_of : Names → LetValue → Expression
expression_of names (v.Same a) = Same (operand_of names a)
expression_of names (v.Combined a o b) = Combined (operand_of names a) o (operand_of names b)

-- what a get waits for
abbrev pub wanted_of : Names → Threshold → Wanted
wanted_of names r.Any = Any
wanted_of names (r.In zs) = In zs
wanted_of names (r.Has a) = At (operand_of names a)
wanted_of names (r.Least a) = At (operand_of names a)
wanted_of names (r.Total a) = At (operand_of names a)

-- what a put or a get without a term is about, on a variable of this kind
abbrev pub whole_of : Option VariableKind → Target
whole_of (Some (Simple k)) = Whole k
whole_of (Some Tally) = Total
whole_of k = Whole Cell

-- the side with the number that a term is
abbrev pub side_of : SimpleKind → SimpleKind → Term → Target
side_of a b (t.Number z) = if int_eq z (pos 1) then Side First a else Side Second b
side_of a b (t.Local x) = Side Second b

-- what a put or a get with a term is about, on a variable of this kind
abbrev pub part_of : Names → Option VariableKind → Term → Target
part_of names (Some Map) a = Entry (operand_of names a)
part_of names (Some (Pair k j)) a = side_of k j a
part_of names (Some Tally) a = Amount (operand_of names a)
part_of names k a = Whole Cell

-- the kind of a variable
abbrev pub kind_in : Names → Word → Option VariableKind
kind_in names v = slice_get names.kinds (name_number names.variables v)

-- what a put or a get on this variable is about
abbrev pub whole : Names → Word → Target
whole names v = whole_of (kind_in names v)

-- what a put or a get with a term on this variable is about
abbrev pub part : Names → Word → Term → Target
part names v a = part_of names (kind_in names v) a

-- ---- statements

-- the instruction of a statement of one line
abbrev pub command_code : Names → Command → Instruction
command_code names (c.Let x a) = Let (name_number names.locals x) (expression_of names a)
command_code names (c.Put v a) = Ask (Put (name_number names.variables v) (whole names v) (operand_of names a))
command_code names (c.PutAt v k a) = Ask (Put (name_number names.variables v) (part names v k) (operand_of names a))
command_code names (c.Get x v w) = Ask (Get (name_number names.locals x) (name_number names.variables v) (whole names v) (wanted_of names w))
command_code names (c.GetAt x v k w) = Ask (Get (name_number names.locals x) (name_number names.variables v) (part names v k) (wanted_of names w))
command_code names (c.Fork n ts) = Ask (Fork (name_number names.procedures n) (map (operand_of names) ts))
command_code names (c.Call n ts) = Call (name_number names.procedures n) (map (operand_of names) ts)
command_code names (c.Handle p n) = Ask (Handle (name_number names.pools p) (name_number names.procedures n))
command_code names (c.Freeze x v ps) = Ask (Freeze (name_number names.locals x) (name_number names.variables v) (map (name_number names.pools) ps) None)
command_code names (c.FreezeEach x v ps n) = Ask (Freeze (name_number names.locals x) (name_number names.variables v) (map (name_number names.pools) ps) (Some (name_number names.procedures n)))

-- a block behind a test that passes it
abbrev pub if_code : Operand → List Instruction → List Instruction
if_code o a = SkipIfZero o (length a) ∷ a

-- a choice: the first block with a jump past the second, and the second block
abbrev pub if_else_code : Operand → List Instruction → List Instruction → List Instruction
if_else_code o a b = SkipIfZero o (length a + 1) ∷ (a ++ GoOn (length b) ∷ b)

-- a loop: a test that passes it, the block, and a test that goes back to the block
abbrev pub while_code : Operand → List Instruction → List Instruction
while_code o a = SkipIfZero o (length a + 1) ∷ (a ++ BackUnlessZero o (length a) ∷ [])

abbrev mutual
  -- the instructions of a statement
  pub statement_code : Names → Statement → List Instruction
  statement_code names (Do c) = command_code names c ∷ []
  statement_code names (If' t s a) = if_code (operand_of names t) (row_code names a)
  statement_code names (IfElse' t s a r b) = if_else_code (operand_of names t) (row_code names a) (row_code names b)
  statement_code names (While' t s a) = while_code (operand_of names t) (row_code names a)

  pub row_code : {m : _} → Names → Row_of-Statement m → List Instruction
  row_code names end_of-Statement = []
  row_code names (more_of-Statement s rest) = statement_code names s ++ row_code names rest

-- the instructions of statements in order
abbrev pub list_code : Names → List Statement → List Instruction
list_code names ss = flat_map (statement_code names) ss

-- ---- the whole

-- the routine of a procedure, of which these are the names
abbrev pub routine_of : Names → Procedure → Routine
routine_of names p = record {
  parameters = length p.parameters;
  locals = length names.locals;
  instructions = list_code names (statements p.body) ++ Return ∷ [];
}

-- the number of the variable of a declared pool, where the variables have these names
abbrev pub declared_pool : List Word → Declaration → List ℕ
declared_pool variables (Variable n k) = []
declared_pool variables (Pool p v) = name_number variables v ∷ []

-- the variable of each pool in order
abbrev pub pool_variables : List Word → List Declaration → List ℕ
pool_variables variables ds = flat_map (declared_pool variables) ds

-- the code of a script: variables are numbered in the order of their lines, so are pools, and so are procedures
pub record IsCodeOf (script : Script) (code : Code) : Type 0 where
  pub kinds : code.kinds ≡ variable_kinds script.declarations
  pub pools : code.pools ≡ pool_variables (variable_names script.declarations) script.declarations
  pub main : code.main ≡ name_number (procedure_names script.procedures) (codes "main")
  pub routines : code.routines ≡ map (λ p. routine_of (names_of script p) p) script.procedures
