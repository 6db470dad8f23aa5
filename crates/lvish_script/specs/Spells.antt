-- Which script a text spells.
use Rattle.std.specs.Prelude.{◌≡◌, ◌⊎◌, ℕ, Bool, true, false, List, [], ◌∷◌, ◌++◌, map, filter}
use Rattle.std.specs.List.{flat_map}
use Rattle.lvish_script.specs.Vocabulary.{Version, One, Two, Declaration, Procedure, Line, ScriptFault, Memory}
use Rattle.lvish_syntax.specs.declared.statement.Statement.{Statement, Do, If', IfElse', While', Row_of-Statement, end_of-Statement, more_of-Statement}
use Rattle.lvish_syntax.specs.declared.script.Script.{Script}
use Rattle.lvish_syntax.specs.Nested.{statements}
use Rattle.lvish_checks.specs.declared.line.Line.TheVariants as line
use Rattle.lvish_checks.specs.Checks.{parts_of, version_of, IsAccepted, IsFirstFault}

abbrev mutual
  -- the lines of a statement, from its first to its end
  pub statement_lines : Statement → List Line
  statement_lines (Do c) = line.Do c ∷ []
  statement_lines (If' t s a) = line.If t ∷ (row_lines a ++ line.End ∷ [])
  statement_lines (IfElse' t s a r b) = line.If t ∷ (row_lines a ++ line.Else ∷ (row_lines b ++ line.End ∷ []))
  statement_lines (While' t s a) = line.While t ∷ (row_lines a ++ line.End ∷ [])

  pub row_lines : {m : _} → Row_of-Statement m → List Line
  row_lines end_of-Statement = []
  row_lines (more_of-Statement s rest) = statement_lines s ++ row_lines rest

-- the lines of statements in order
abbrev pub body_lines : List Statement → List Line
body_lines ss = flat_map statement_lines ss

abbrev pub procedure_lines : Procedure → List Line
procedure_lines p = line.Proc p.name p.parameters ∷ (body_lines (statements p.body) ++ line.End ∷ [])

-- the lines of declarations and procedures in order
abbrev pub script_lines : List Declaration → List Procedure → List Line
script_lines ds ps = map (λ d. line.Declare d) ds ++ flat_map procedure_lines ps

-- the lines of a version, which stand above all others
abbrev pub version_lines : Version → List Line
version_lines One = []
version_lines Two = line.Version ∷ []

-- whether a line says something beside the version
abbrev pub says_something : Line → Bool
says_something line.Blank = false
says_something line.Version = false
says_something l = true

-- no check fails, the lines say the script's version, and those that say something beside it are the script's
pub record Spells (text : List ℕ) (s : Script) : Type 0 where
  pub accepted : IsAccepted (parts_of text)
  pub version : s.version ≡ version_of (parts_of text).said
  pub lines : script_lines s.declarations s.procedures ≡ filter says_something (parts_of text).said

-- a text is refused: for want of memory, or for the first check that fails, on the lowest line
abbrev pub IsTextRefused : List ℕ → ScriptFault → Type 0
IsTextRefused text e = (e ≡ record { fault = Memory; line = 0 }) ⊎ IsFirstFault (parts_of text) e.fault e.line
