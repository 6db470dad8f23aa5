-- Which statements the instructions from a place on do.
use Rattle.std.specs.Prelude.{◌≡◌, ℕ, ◌+◌, ◌-◌, ◌≤◌, List, [], ◌∷◌, ◌++◌, length, Option, Some, None}
use Rattle.std.specs.List.{slice_get}
use Rattle.lvish_syntax.specs.Nested.{statements}
use Rattle.lvish_code.specs.Vocabulary.{Term, Command, Statement, out-Statement, Block, Operand, Instruction, SkipIfZero, BackUnlessZero, GoOn, Return}
use Rattle.lvish_syntax.specs.declared.statement.Statement.TheOpen.{Statement-F, Do, If, IfElse, While}
use Rattle.lvish_code.specs.Compile.{Names, operand_of, command_code, statement_code}

-- the instructions stand in the code from this place on
abbrev pub HasAt : List Instruction → ℕ → List Instruction → Type 0
HasAt code place [] = Unit {0}
HasAt code place (i ∷ is) = (slice_get code place ≡ Some i) × HasAt code (place + 1) is

-- from this place the code does these statements, and returns
pub data Follows (names : Names) (code : List Instruction) : ℕ → List Statement → Type 0 where
  returns : (place : ℕ) → slice_get code place ≡ Some Return → Follows names code place []
  stands : (place : ℕ) (s : Statement) (ks : List Statement) → HasAt code place (statement_code names s) → Follows names code (place + length (statement_code names s)) ks → Follows names code place (s ∷ ks)
  goes_on : (place n : ℕ) (ks : List Statement) → slice_get code place ≡ Some (GoOn n) → Follows names code (place + 1 + n) ks → Follows names code place ks
  -- at the last instruction of a loop the loop follows once more
  repeats : (place start : ℕ) (s : Statement) (t : Term) (b : Block) (ks : List Statement) → out-Statement s ≡ While t b → HasAt code start (statement_code names s) → place + 1 ≡ start + length (statement_code names s) → Follows names code (place + 1) ks → Follows names code place (s ∷ ks)

-- ---- what a statement's test chooses

-- the term that a statement tests
abbrev pub tested_term : Statement-F Statement Block → Option Term
tested_term (Do c) = None
tested_term (If t a) = Some t
tested_term (IfElse t a b) = Some t
tested_term (While t a) = Some t

-- the statements that follow where the term isn't 0, of a statement before others
abbrev pub taken : Statement → Statement-F Statement Block → List Statement → List Statement
taken s (Do c) ks = ks
taken s (If t a) ks = statements a ++ ks
taken s (IfElse t a b) ks = statements a ++ ks
taken s (While t a) ks = statements a ++ s ∷ ks

-- the statements that follow where it is 0
abbrev pub passed : Statement-F Statement Block → List Statement → List Statement
passed (Do c) ks = ks
passed (If t a) ks = ks
passed (IfElse t a b) ks = statements b ++ ks
passed (While t a) ks = ks

-- ---- what the instruction at a place does, where these statements follow

module _ (names : Names) (code : List Instruction) where
  -- it is that of the first statement, which has one line
  pub record DoesCommand (place : ℕ) (ks : List Statement) (i : Instruction) : Type 0 where
    pub statement : Statement
    pub rest : List Statement
    pub command : Command
    pub is : ks ≡ statement ∷ rest
    pub out : out-Statement statement ≡ Do command
    pub code_is : command_code names command ≡ i
    pub follows : Follows names code (place + 1) rest

  -- it tests the term of the first statement, and leads to one place where that isn't 0 and to another where it is
  pub record DoesTest (ks : List Statement) (operand : Operand) (if_not if_zero : ℕ) : Type 0 where
    pub statement : Statement
    pub rest : List Statement
    pub term : Term
    pub is : ks ≡ statement ∷ rest
    pub tests : tested_term (out-Statement statement) ≡ Some term
    pub operand_is : operand_of names term ≡ operand
    pub follows_taken : Follows names code if_not (taken statement (out-Statement statement) rest)
    pub follows_passed : Follows names code if_zero (passed (out-Statement statement) rest)

  -- what an instruction does at a place from which these statements follow
  abbrev pub Does : ℕ → List Statement → Instruction → Type 0
  Does place ks (SkipIfZero o n) = DoesTest ks o (place + 1) (place + 1 + n)
  Does place ks (BackUnlessZero o n) = DoesTest ks o (place - n) (place + 1) × (n ≤ place)
  Does place ks (GoOn n) = Follows names code (place + 1 + n) ks
  Does place ks Return = ks ≡ []
  Does place ks i = DoesCommand place ks i
