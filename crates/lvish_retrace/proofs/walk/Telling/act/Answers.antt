use Rattle.lvish_calculus.specs.declared.label.Label.TheVariants.{Act as Acts}
use Rattle.lvish_retrace.proofs.CodeMachine.{code_machine}
use Rattle.lvish_retrace.proofs.Stepping.{stopped, told_act}
use Rattle.lvish_retrace.proofs.walk.Telling.act.Goals as goal

pub returns-in_default-2 : goal.returns-in_default-2
returns-in_default-2 c = stopped (code_machine c.args.core.now.program) c.args.core.now c.args.number c.make.new.core (Acts c.args.name.now) c.args.self.now.brought.items c.make.new.brought.items c.in_ok-said.field-0 c.in_default-2.is c.in_ok-said.ensures

pub returns : goal.returns
returns c =
    told_act (code_machine c.args.core.now.program) c.args.core.now c.args.number c.make.new.core c.args.name.now c.args.self.now.brought.items c.make.new.brought.items c.in_ok-said.field-0 c.in-Some-2.said c.in-Some-2.is c.in_ok-said.ensures
    c.in_ok-told.told c.in-Some.task c.in_ok-told.ensures ((rw c.in-Some.is at c.in_ok-task.ensures).0) c.args.self.now.steps.items _ c.in_ok-push.ensures.items
