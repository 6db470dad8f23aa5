use Rattle.std.proofs.Common.{refl}
use Rattle.lvish_core.proofs.Shown.{are_states}
use Rattle.lvish_core.proofs.machine.Core.into_parts.Goals as goal

pub returns-clause-states : goal.returns-clause-states
returns-clause-states g c = rw (← c.self.view_is) (are_states _ _ _ _ _ c.self.invariant c.self.inside.variables.items refl)
