use Rattle.std.proofs.Common.{refl}
use Rattle.lvish_core.proofs.Ended.{none_counted_ready}
use Rattle.lvish_core.proofs.machine.Core.are_all_blocked.Goals as goal

pub returns-then-self-eq0 : goal.returns-then-self-eq0
returns-then-self-eq0 g c = rw (← c.self.view_is) (λ z. none_counted_ready _ _ _ _ _ c.self.invariant c.if-self-eq0.true, λ z. refl)
