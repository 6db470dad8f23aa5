-- The words of scripts and of flat code, for one `use` line.
pub use Rattle.lvish_syntax.specs.Words.{Word}
pub use Rattle.lvish_syntax.specs.declared.kind.SimpleKind.{SimpleKind}
pub use Rattle.lvish_syntax.specs.declared.kind.SimpleKind.TheVariants.{Cell, Set, Max}
pub use Rattle.lvish_syntax.specs.declared.kind.VariableKind.{VariableKind}
pub use Rattle.lvish_syntax.specs.declared.kind.VariableKind.TheVariants.{Simple, Map, Pair, Tally}
pub use Rattle.lvish_syntax.specs.declared.term.Term.{Term}
pub use Rattle.lvish_syntax.specs.declared.let_value.LetValue.{LetValue}
pub use Rattle.lvish_syntax.specs.declared.threshold.Threshold.{Threshold}
pub use Rattle.lvish_syntax.specs.declared.declaration.Declaration.{Declaration}
pub use Rattle.lvish_syntax.specs.declared.declaration.Declaration.TheVariants.{Variable, Pool}
pub use Rattle.lvish_syntax.specs.declared.command.Command.{Command}
pub use Rattle.lvish_syntax.specs.declared.statement.Statement.{Statement}
pub use Rattle.lvish_syntax.specs.declared.statement.Statement.TheViews.{out-Statement}
pub use Rattle.lvish_syntax.specs.declared.statement.Block.{Block}
pub use Rattle.lvish_syntax.specs.declared.procedure.Procedure.{Procedure}
pub use Rattle.lvish_syntax.specs.declared.script.Script.{Script}
pub use Rattle.lvish_code.specs.declared.operand.Operand.{Operand}
pub use Rattle.lvish_code.specs.declared.operand.Operand.TheVariants.{Local, Number}
pub use Rattle.lvish_code.specs.declared.expression.Expression.{Expression}
pub use Rattle.lvish_code.specs.declared.expression.Expression.TheVariants.{Same, Combined}
pub use Rattle.lvish_code.specs.declared.target.Target.{Target}
pub use Rattle.lvish_code.specs.declared.target.Target.TheVariants.{Whole, Entry, Side, Amount, Total}
pub use Rattle.lvish_code.specs.declared.target.Side.TheVariants.{First, Second}
pub use Rattle.lvish_code.specs.declared.wanted.Wanted.{Wanted}
pub use Rattle.lvish_code.specs.declared.wanted.Wanted.TheVariants.{Any, In, At}
pub use Rattle.lvish_code.specs.declared.instruction.Action.{Action}
pub use Rattle.lvish_code.specs.declared.instruction.Action.TheVariants.{Put, Get, Fork, Handle, Freeze}
pub use Rattle.lvish_code.specs.declared.instruction.Instruction.{Instruction}
pub use Rattle.lvish_code.specs.declared.instruction.Instruction.TheVariants.{Ask, Let, Call, SkipIfZero, BackUnlessZero, GoOn, Return}
pub use Rattle.lvish_code.specs.declared.routine.Routine.{Routine}
