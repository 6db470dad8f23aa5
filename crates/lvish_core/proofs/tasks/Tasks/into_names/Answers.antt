use Rattle.std.proofs.Common.{sym}
use Rattle.lvish_core.proofs.Staged.{names-zip}
use Rattle.lvish_core.proofs.tasks.Tasks.into_names.Goals as goal

pub returns : goal.returns
returns g c = rw (← c.self.view_is) (sym (names-zip _ _ c.self.invariant.beside))
