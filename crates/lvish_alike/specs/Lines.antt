-- What the lines of a procedure name.
use Rattle.std.specs.Prelude.{ℕ, List, [], ◌∷◌, Option, Some, None}
use Rattle.std.specs.Option.{option_map_or}
use Rattle.std.specs.List.{slice_get, flat_map, filter_map}
use Rattle.lvish_syntax.specs.Nested.{statements, all_nested}
use Rattle.lvish_syntax.specs.declared.command.Command.TheVariants as line
use Rattle.lvish_syntax.specs.declared.statement.Statement.TheOpen.{Statement-F, Do}
use Rattle.lvish_task.specs.Vocabulary.{Command, Statement, out-Statement, Block, Procedure, Script}
use Rattle.lvish_task.specs.Meaning.{variable, procedure}

-- the line of a statement that has no block
abbrev pub own_line : Statement-F Statement Block → List Command
own_line (Do c) = c ∷ []
own_line s = []

-- the lines of a procedure, in blocks too
abbrev pub procedure_lines : Procedure → List Command
procedure_lines p = flat_map (λ s. own_line (out-Statement s)) (all_nested (statements p.body))

module _ (script : Script) where
  -- the lines of the procedure with this number, none where there is no such procedure
  abbrev pub lines : ℕ → List Command
  lines k = option_map_or procedure_lines (slice_get script.procedures k) []

  -- the procedure that a line names
  abbrev pub line_names : Command → Option ℕ
  line_names (line.Fork n ts) = Some (procedure script n)
  line_names (line.Call n ts) = Some (procedure script n)
  line_names (line.Handle p n) = Some (procedure script n)
  line_names (line.FreezeEach x v ps n) = Some (procedure script n)
  line_names c = None

  -- the procedure that a line has run by another task
  abbrev pub line_starts : Command → Option ℕ
  line_starts (line.Fork n ts) = Some (procedure script n)
  line_starts (line.Handle p n) = Some (procedure script n)
  line_starts c = None

  -- the variable that a line freezes
  abbrev pub line_freezes : Command → Option ℕ
  line_freezes (line.Freeze x v ps) = Some (variable script v)
  line_freezes (line.FreezeEach x v ps n) = Some (variable script v)
  line_freezes c = None

  -- the procedures that a procedure's lines name, those that they have run by other tasks, and the variables that they freeze
  abbrev pub names : ℕ → List ℕ
  names k = filter_map line_names (lines k)

  abbrev pub starts : ℕ → List ℕ
  starts k = filter_map line_starts (lines k)

  abbrev pub freezes : ℕ → List ℕ
  freezes k = filter_map line_freezes (lines k)
