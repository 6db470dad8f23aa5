use Rattle.lvish_core.proofs.machine.Core.is_drained.Goals as goal

pub are_drained-requires : goal.are_drained-requires
are_drained-requires g c = rw (c.deref.ensures.value, c.deref-2.ensures.value) c.self.invariant.standing.pictured.table.within

pub returns : goal.returns
returns g c = rw (← c.self.view_is) (rw (c.deref.ensures.value, c.deref-2.ensures.value) at c.are_drained.ensures)
