-- The words of other crates in which tasks are described, for one `use` line.
pub use Rattle.lvish_compound.specs.declared.any.Any.{Any}
pub use Rattle.lvish_compound.specs.declared.any_read.AnyRead.{AnyRead}
pub use Rattle.lvish_compound.specs.declared.event.Event.{Event}
pub use Rattle.lvish_compound.specs.declared.kind.Kind.{Kind}
pub use Rattle.lvish_compound.specs.declared.place.Place.{Place}
pub use Rattle.lvish_compound.specs.declared.number_test.Test.{Test}
pub use Rattle.lvish_calculus.specs.declared.request.ErrorKind.{ErrorKind}
pub use Rattle.lvish_calculus.specs.declared.request.Request.{Request}
pub use Rattle.lvish_calculus.specs.declared.request.Reply.{Reply}
pub use Rattle.lvish_code.specs.Vocabulary.{SimpleKind, Cell, Set, Max, VariableKind, Simple, Map, Pair, Tally, Term, LetValue, Threshold, Declaration, Command, Statement, out-Statement, Block, Procedure, Script}
pub use Rattle.lvish_code.specs.declared.operand.Operand.{Operand}
pub use Rattle.lvish_code.specs.declared.expression.Expression.{Expression}
pub use Rattle.lvish_code.specs.declared.target.Target.{Target}
pub use Rattle.lvish_code.specs.declared.target.Side.TheVariants.{First, Second}
pub use Rattle.lvish_code.specs.declared.wanted.Wanted.{Wanted}
pub use Rattle.lvish_code.specs.declared.instruction.Action.{Action}
pub use Rattle.lvish_code.specs.declared.instruction.Action.TheVariants.{Put, Get, Fork, Handle, Freeze}
pub use Rattle.lvish_code.specs.declared.instruction.Instruction.{Instruction}
pub use Rattle.lvish_code.specs.declared.instruction.Instruction.TheVariants.{Ask, Let, Call, SkipIfZero, BackUnlessZero, GoOn, Return}
pub use Rattle.lvish_code.specs.declared.routine.Routine.{Routine}
