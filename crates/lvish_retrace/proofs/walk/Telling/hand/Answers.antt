use Rattle.lvish_retrace.proofs.CodeMachine.{code_machine}
use Rattle.lvish_retrace.proofs.Stepping.{told_hand}
use Rattle.lvish_retrace.proofs.walk.Telling.hand.Goals as goal

pub returns : goal.returns
returns c =
    told_hand (code_machine c.args.core.now.program) c.args.core.now c.args.number c.hand_on.new.core c.args.handler.now c.args.event c.args.label.now c.requires c.in_ok-hand_on.field-0 c.if-not-branch.false c.in_ok-hand_on.ensures _ c.tasks-task.ensures
    c.args.self.now.brought.items c.args.self.now.steps.items _ c.in_ok-push.ensures.items
