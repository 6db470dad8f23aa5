use Rattle.lvish_core.proofs.Staged.{names-zip, stages-zip}
use Rattle.lvish_core.proofs.tasks.Tasks.stages.Goals as goal

pub returns-clause-all : goal.returns-clause-all
returns-clause-all g c = rw (← c.self.view_is, c.deref.ensures.value) (stages-zip _ _ c.self.invariant.beside)

pub returns-clause-once : goal.returns-clause-once
returns-clause-once g c = rw (← c.self.view_is)
    (rw (names-zip _ _ c.self.invariant.beside) c.self.invariant.indexed.once)
