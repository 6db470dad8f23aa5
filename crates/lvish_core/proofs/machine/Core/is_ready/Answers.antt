use Rattle.std.proofs.Common.{◌<◌, arith}
use Rattle.lvish_core.proofs.Ready.{there, beside, get_is_ready, counted_pools, freeze_is_ready, freeze_waits}
use Rattle.lvish_core.proofs.machine.Core.is_ready.Goals as goal

pub ended-requires : goal.ended-requires
ended-requires g c =
    let freezes = rw (← c.self.view_is) at c.requires.freezes in
    let own = freezes c.in-Freeze.variable _ c.in-Freeze.is in
    rw c.as_slice.ensures
    (counted_pools _ _ _ _ _ c.self.invariant c.in-Freeze.variable _ own.0 c.index-handlers.ensures c.in-Freeze.pools own.1)

pub returns-in-Get : goal.returns-in-Get
returns-in-Get g c =
    let gets = rw (← c.self.view_is) at c.requires.gets in
    rw (← c.self.view_is, c.in-Get.is)
    (get_is_ready _ _ _ _ _ c.self.invariant c.in-Get.variable c.in-Get.read _ (gets c.in-Get.variable _ c.in-Get.is) c.index.ensures _ c.read.ensures c.is_some.result c.is_some.ensures)

pub returns-then-drained : goal.returns-then-drained
returns-then-drained g c =
    let freezes = rw (← c.self.view_is) at c.requires.freezes in
    let own = freezes c.in-Freeze.variable _ c.in-Freeze.is in
    let ended = rw c.as_slice.ensures at c.ended.ensures in
    rw (← c.self.view_is, c.in-Freeze.is)
    (freeze_is_ready _ _ _ _ _ c.self.invariant (c.freezes_by_counts.ensures.quiet c.self.inside.program.now) c.in-Freeze.variable _ _ own.0 c.index-in-Freeze.ensures c.index-handlers.ensures
    c.in-Freeze.pools own.1 (c.drained.ensures.0 c.if-drained.true) c.ended.result ended)

pub returns-else-drained : goal.returns-else-drained
returns-else-drained g c =
    let freezes = rw (← c.self.view_is) at c.requires.freezes in
    let own = freezes c.in-Freeze.variable _ c.in-Freeze.is in
    rw (← c.self.view_is, c.in-Freeze.is)
    (freeze_waits _ _ _ _ _ c.self.invariant (c.freezes_by_counts.ensures.quiet c.self.inside.program.now) c.in-Freeze.variable _ _ own.0 c.index-in-Freeze.ensures c.index-handlers.ensures
    c.in-Freeze.pools own.1 c.drained.result c.drained.ensures c.if-drained.false)

pub index-requires : goal.index-requires
index-requires g c =
    let gets = rw (← c.self.view_is) at c.requires.gets in
    let known : c.in-Get.variable < (g.P.Program.functions c.self.inside.program.now).variables = gets c.in-Get.variable _ c.in-Get.is in
    omega (arith, known, c.self.invariant.there, c.self.inside.variables.ok.0)

pub index-requires-in-Freeze : goal.index-requires-in-Freeze
index-requires-in-Freeze g c =
    let freezes = rw (← c.self.view_is) at c.requires.freezes in
    let own = freezes c.in-Freeze.variable _ c.in-Freeze.is in
    let known : c.in-Freeze.variable < (g.P.Program.functions c.self.inside.program.now).variables = own.0 in
    omega (arith, known, c.self.invariant.there, c.self.inside.variables.ok.0)

pub index-handlers-requires : goal.index-handlers-requires
index-handlers-requires g c =
    let freezes = rw (← c.self.view_is) at c.requires.freezes in
    let own = freezes c.in-Freeze.variable _ c.in-Freeze.is in
    let known : c.in-Freeze.variable < (g.P.Program.functions c.self.inside.program.now).variables = own.0 in
    omega (arith, known, c.self.invariant.there, c.self.invariant.standing.pictured.table.beside, c.self.inside.handlers.ok.0)

pub drained-requires : goal.drained-requires
drained-requires g c =
    let freezes = rw (← c.self.view_is) at c.requires.freezes in
    let own = freezes c.in-Freeze.variable _ c.in-Freeze.is in
    let known : c.in-Freeze.variable < (g.P.Program.functions c.self.inside.program.now).variables = own.0 in
    c.self.invariant.standing.pictured.table.within c.in-Freeze.variable _ _ (there _ _ _ _ _ c.self.invariant _ _ known c.index-in-Freeze.ensures) (beside _ _ _ _ _ c.self.invariant _ _ known c.index-handlers.ensures)
