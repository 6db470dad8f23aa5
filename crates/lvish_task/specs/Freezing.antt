-- Scripts with the line `freeze`, and code that asks to freeze.
use Rattle.std.specs.Prelude.{Bool, true, false, List}
use Rattle.std.specs.List.{list_any}
use Rattle.lvish_syntax.specs.Nested.{statements, all_nested}
use Rattle.lvish_task.specs.Vocabulary.{Command, Statement, out-Statement, Block, Script, Action, Instruction, Ask, Routine}
use Rattle.lvish_syntax.specs.declared.command.Command.TheVariants as line
use Rattle.lvish_syntax.specs.declared.statement.Statement.TheOpen.{Statement-F, Do}
use Rattle.lvish_code.specs.declared.instruction.Action.TheVariants as action
use Rattle.lvish_code.specs.Flat as flat

-- ---- lines

-- whether a command is the line `freeze`, with `each` or without
abbrev pub is_freeze_command : Command → Bool
is_freeze_command (line.Freeze x v ps) = true
is_freeze_command (line.FreezeEach x v ps n) = true
is_freeze_command c = false

-- whether a statement is this line itself
abbrev pub is_freeze_line : Statement-F Statement Block → Bool
is_freeze_line (Do c) = is_freeze_command c
is_freeze_line u = false

-- whether one of the statements, or of those within them, is this line
abbrev pub have_freeze : List Statement → Bool
have_freeze ss = list_any (λ s. is_freeze_line (out-Statement s)) (all_nested ss)

-- whether the script has the line
abbrev pub has_freeze : Script → Bool
has_freeze script = list_any (λ p. have_freeze (statements p.body)) script.procedures

-- ---- instructions

-- whether an action asks to freeze
abbrev pub is_freeze_action : Action → Bool
is_freeze_action (action.Freeze x v ps each) = true
is_freeze_action a = false

-- whether an instruction asks to freeze
abbrev pub is_freeze : Instruction → Bool
is_freeze (Ask a) = is_freeze_action a
is_freeze i = false

-- whether an instruction of a routine does
abbrev pub routine_freezes : Routine → Bool
routine_freezes r = list_any is_freeze r.instructions

-- whether one of the code does
abbrev pub code_freezes : flat.Code → Bool
code_freezes c = list_any routine_freezes c.routines
