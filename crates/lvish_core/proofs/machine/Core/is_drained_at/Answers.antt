use Rattle.lvish_core.proofs.Shown.{none_freezes}
use Rattle.lvish_core.proofs.machine.Core.is_drained_at.Goals as goal

pub is_drained_at-requires : goal.is_drained_at-requires
is_drained_at-requires g c = rw (c.deref.ensures.value, c.deref-2.ensures.value) c.self.invariant.standing.pictured.table.within

pub returns-clause-drained : goal.returns-clause-drained
returns-clause-drained g c = rw (← c.self.view_is) (rw (c.deref.ensures.value, c.deref-2.ensures.value) at c.is_drained_at.ensures)

pub returns-clause-freezes : goal.returns-clause-freezes
returns-clause-freezes g c = λ waits. rw (← c.self.view_is)
    (none_freezes _ _ _ _ _ c.self.invariant (c.drained_at_the_end.ensures c.self.inside.program.now) c.args.variable c.is_drained_at.result (rw (c.deref.ensures.value, c.deref-2.ensures.value) at c.is_drained_at.ensures) waits)
