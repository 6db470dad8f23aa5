-- The machine of a script's code.
use Rattle.std.proofs.Common.{ℤ}
use Rattle.lvish_compound.specs.declared.any.Any.{Any}
use Rattle.lvish_compound.specs.declared.any_read.AnyRead.{AnyRead}
use Rattle.lvish_compound.specs.declared.event.Event.{Event}
use Rattle.lvish_compound.specs.contracts.any.AnyLattice.TheImpl.{ghosts as states_joined}
use Rattle.lvish_compound.specs.contracts.any.AnyPartialEq.TheImpl.{ghosts as states_same}
use Rattle.lvish_compound.specs.contracts.any_read.AnyReads.TheImpl.{ghosts as states_read}
use Rattle.lvish_compound.specs.contracts.event.EventOrd.TheImpl.{ghosts as events_ordered}
use Rattle.lvish_compound.specs.contracts.event.EventPartialEq.TheImpl.{ghosts as events_same}
use Rattle.lvish_calculus.specs.Machine.{Machine}
use Rattle.lvish_calculus.specs.Program.{machine_of}
use Rattle.lvish_task.specs.contracts.script_code.ScriptCode as ScriptCode
use Rattle.lvish_task.specs.declared.stack.Stack.{Stack}
use Rattle.lvish_task.specs.Run.{functions}

abbrev pub code_machine : ScriptCode.the_row.Denot → Machine Any Event AnyRead ℤ Stack
code_machine c = machine_of states_same.eq events_same.eq events_ordered.cmp states_joined.least states_joined.joined states_joined.events_of states_read.answer_of (functions c)
