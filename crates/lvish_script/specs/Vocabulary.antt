-- The words of scripts, and of what their lines say, for one `use` line.
pub use Rattle.lvish_checks.specs.Vocabulary.{Word, Version, One, Two, SimpleKind, Cell, Set, Max, Simple, Map, Pair, Tally, Operator, Add, Subtract, Multiply, Divide, Remainder, Less, Equal, Term, Local, Number, LetValue, Same, Combined, Threshold, Any, In, Has, Least, Total, Declaration, Variable, Pool, Command, Let, Put, PutAt, Get, GetAt, Fork, Call, Handle, Freeze, FreezeEach, Statement, Block, Procedure}
pub use Rattle.lvish_checks.specs.declared.line.Line.{Line}
pub use Rattle.lvish_checks.specs.declared.line.Line.TheVariants.{Blank, Bad, Version as Versioned, Declare, Proc, Do, If, While, Else, End}
pub use Rattle.lvish_checks.specs.declared.open_blocks.Opener.{Opener}
pub use Rattle.lvish_checks.specs.declared.open_blocks.Opener.TheVariants.{Procedure as InProcedure, If as InIf, Else as InElse, While as InWhile}
pub use Rattle.lvish_checks.specs.declared.fault.Fault.TheVariants.{TooLong, NotAscii, BadLine, BadNumber, DoubleName, UnknownName, WrongKind, WrongCount, OpenBlock, Compatible, NoMain, TooMany, Memory}
pub use Rattle.lvish_checks.specs.declared.script_fault.ScriptFault.{ScriptFault}
