use Rattle.lvish_core.proofs.Errors.{failed}
use Rattle.lvish_core.proofs.machine.Core.fail.Goals as goal

pub invariant_of-self : goal.invariant_of-self
invariant_of-self g c = (failed (c.errors_are_steps.ensures c.self.inside.program.now) c.self.invariant (rw (← c.self.view_is) at c.requires.failing) (rw (← c.self.view_is) at c.requires.room) _ c.in_ok-task.ensures).1

pub returns : goal.returns
returns g c = rw (← c.self.view_is, c.nothing.ensures)
    (failed (c.errors_are_steps.ensures c.self.inside.program.now) c.self.invariant (rw (← c.self.view_is) at c.requires.failing) (rw (← c.self.view_is) at c.requires.room) _ c.in_ok-task.ensures).0
