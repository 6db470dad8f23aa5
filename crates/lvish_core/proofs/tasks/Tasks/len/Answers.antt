use Rattle.std.proofs.Common.{sym, ◌∙◌}
use Rattle.lvish_core.proofs.Staged.{length-tasks}
use Rattle.lvish_core.proofs.tasks.Tasks.len.Goals as goal

pub returns : goal.returns
returns g c = rw (← c.self.view_is) (c.len.ensures ∙ c.self.inside.names.ok.0 ∙ sym (length-tasks _ _ c.self.invariant.beside))
