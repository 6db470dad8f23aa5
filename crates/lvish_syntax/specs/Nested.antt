-- Statements and those within them.
use Rattle.std.specs.Prelude.{ℕ, suc, List, [], ◌∷◌, ◌++◌, max}
use Rattle.std.specs.List.{flat_map}
use Rattle.lvish_syntax.specs.declared.statement.Statement.{Statement, Do, If', IfElse', While', Row_of-Statement, end_of-Statement, more_of-Statement}
use Rattle.lvish_syntax.specs.declared.statement.Block.{Block}

-- the statements of a block in order
abbrev pub statements : Block → List Statement
statements b = b.items.items

abbrev mutual
  -- a statement and those within it, in the order of their lines
  pub nested : Statement → List Statement
  nested (If' t s a) = If' t s a ∷ row_nested a
  nested (IfElse' t s a r b) = IfElse' t s a r b ∷ (row_nested a ++ row_nested b)
  nested (While' t s a) = While' t s a ∷ row_nested a
  nested (Do c) = Do c ∷ []

  pub row_nested : {m : _} → Row_of-Statement m → List Statement
  row_nested end_of-Statement = []
  row_nested (more_of-Statement s rest) = nested s ++ row_nested rest

-- statements and those within them, in the order of their lines
abbrev pub all_nested : List Statement → List Statement
all_nested ss = flat_map nested ss

abbrev mutual
  -- how deep blocks stand within a statement
  pub depth : Statement → ℕ
  depth (If' t s a) = suc (row_depth a)
  depth (IfElse' t s a r b) = suc (max (row_depth a) (row_depth b))
  depth (While' t s a) = suc (row_depth a)
  depth (Do c) = 0

  pub row_depth : {m : _} → Row_of-Statement m → ℕ
  row_depth end_of-Statement = 0
  row_depth (more_of-Statement s rest) = max (depth s) (row_depth rest)

-- how deep blocks stand within statements
abbrev pub all_depth : List Statement → ℕ
all_depth [] = 0
all_depth (s ∷ ss) = max (depth s) (all_depth ss)
