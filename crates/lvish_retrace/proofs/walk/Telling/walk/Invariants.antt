use Rattle.lvish_trace.specs.Traced.{labels_of}
use Rattle.lvish_retrace.specs.Walk.{IsWalkedTo}
use Rattle.lvish_retrace.proofs.CodeMachine.{code_machine}
use Rattle.lvish_retrace.proofs.walk.Telling.walk.Given as goal

abbrev pub invariant-loop-number : goal.invariant-loop-number
invariant-loop-number l = IsWalkedTo (code_machine l.initial.core.program) l.initial.core.program (labels_of l.entries) l.number l.core l.self.brought.items l.self.steps.items
