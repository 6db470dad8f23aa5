-- The words of scripts, and of what their lines say, for one `use` line.
pub use Rattle.lvish_syntax.specs.Words.{Word}
pub use Rattle.lvish_syntax.specs.declared.version.Version.{Version}
pub use Rattle.lvish_syntax.specs.declared.version.Version.TheVariants.{One, Two}
pub use Rattle.lvish_syntax.specs.declared.kind.SimpleKind.{SimpleKind}
pub use Rattle.lvish_syntax.specs.declared.kind.SimpleKind.TheVariants.{Cell, Set, Max}
pub use Rattle.lvish_syntax.specs.declared.kind.VariableKind.{VariableKind}
pub use Rattle.lvish_syntax.specs.declared.kind.VariableKind.TheVariants.{Simple, Map, Pair, Tally}
pub use Rattle.lvish_syntax.specs.declared.operator.Operator.{Operator}
pub use Rattle.lvish_syntax.specs.declared.operator.Operator.TheVariants.{Add, Subtract, Multiply, Divide, Remainder, Less, Equal}
pub use Rattle.lvish_syntax.specs.declared.term.Term.{Term}
pub use Rattle.lvish_syntax.specs.declared.term.Term.TheVariants.{Local, Number}
pub use Rattle.lvish_syntax.specs.declared.let_value.LetValue.{LetValue}
pub use Rattle.lvish_syntax.specs.declared.let_value.LetValue.TheVariants.{Same, Combined}
pub use Rattle.lvish_syntax.specs.declared.threshold.Threshold.{Threshold}
pub use Rattle.lvish_syntax.specs.declared.threshold.Threshold.TheVariants.{Any, In, Has, Least, Total}
pub use Rattle.lvish_syntax.specs.declared.declaration.Declaration.{Declaration}
pub use Rattle.lvish_syntax.specs.declared.declaration.Declaration.TheVariants.{Variable, Pool}
pub use Rattle.lvish_syntax.specs.declared.command.Command.{Command}
pub use Rattle.lvish_syntax.specs.declared.command.Command.TheVariants.{Let, Put, PutAt, Get, GetAt, Fork, Call, Handle, Freeze, FreezeEach}
pub use Rattle.lvish_syntax.specs.declared.statement.Statement.{Statement}
pub use Rattle.lvish_syntax.specs.declared.statement.Block.{Block}
pub use Rattle.lvish_syntax.specs.declared.procedure.Procedure.{Procedure}
pub use Rattle.lvish_checks.specs.declared.line.Line.{Line}
pub use Rattle.lvish_checks.specs.declared.line.Line.TheVariants.{Blank, Bad, Version as Versioned, Declare, Proc, Do, If, While, Else, End}
pub use Rattle.lvish_checks.specs.declared.open_blocks.Opener.{Opener}
pub use Rattle.lvish_checks.specs.declared.open_blocks.Opener.TheVariants.{Procedure as InProcedure, If as InIf, Else as InElse, While as InWhile}
pub use Rattle.lvish_checks.specs.declared.fault.Fault.{Fault}
pub use Rattle.lvish_checks.specs.declared.fault.Fault.TheVariants.{TooLong, NotAscii, BadLine, BadNumber, DoubleName, UnknownName, WrongKind, WrongCount, OpenBlock, Compatible, NoMain, TooMany, Memory}
pub use Rattle.lvish_checks.specs.declared.script_fault.ScriptFault.{ScriptFault}
