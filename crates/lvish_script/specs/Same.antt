-- The same statements and procedures, wherever in memory their blocks lie.
use Rattle.std.specs.Prelude.{◌≡◌}
use Rattle.std.specs.List.{AllZip}
use Rattle.lvish_syntax.specs.declared.statement.Statement.{Statement, Do, If', IfElse', While', Row_of-Statement, end_of-Statement, more_of-Statement}
use Rattle.lvish_syntax.specs.declared.procedure.Procedure.{Procedure}
use Rattle.lvish_syntax.specs.Nested.{statements}

abbrev mutual
  -- equal commands and terms, and the same statements in their blocks
  pub IsSame : Statement → Statement → Type 0
  IsSame (Do c) (Do d) = c ≡ d
  IsSame (If' t s a) (If' u r b) = (t ≡ u) × AreSame a b
  IsSame (IfElse' t s a r b) (IfElse' u p c q d) = (t ≡ u) × AreSame a c × AreSame b d
  IsSame (While' t s a) (While' u r b) = (t ≡ u) × AreSame a b
  IsSame s r = ⊥

  pub AreSame : {m n : _} → Row_of-Statement m → Row_of-Statement n → Type 0
  AreSame end_of-Statement end_of-Statement = Unit {0}
  AreSame (more_of-Statement s rest) (more_of-Statement r more) = IsSame s r × AreSame rest more
  AreSame a b = ⊥

-- of one name, with equal parameters and the same statements
pub record IsSameProcedure (p q : Procedure) : Type 0 where
  pub name : p.name ≡ q.name
  pub parameters : p.parameters ≡ q.parameters
  pub body : AllZip IsSame (statements p.body) (statements q.body)
