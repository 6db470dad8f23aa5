use Rattle.std.proofs.Common.{arith}
use Rattle.lvish_core.proofs.Ready.{beside}
use Rattle.lvish_picture.proofs.Slots.{get_there}
use Rattle.lvish_core.proofs.Seated.{are_handlers}
use Rattle.lvish_core.proofs.machine.Core.handlers.Goals as goal

pub returns-clause-are : goal.returns-clause-are
returns-clause-are g c =
    let lt = rw (← c.self.view_is) at c.requires in
    let x = get_there c.self.inside.variables.items c.args.variable (omega (arith, lt, c.self.invariant.there)) in
    rw (← c.self.view_is)
    (are_handlers _ _ _ _ _ c.self.invariant (c.lawful.ensures c.self.inside.program.now) (c.handlers_are_held.ensures.posts c.self.inside.program.now) c.args.variable
    x.0 x.1 c.index.result.now (beside _ _ _ _ _ c.self.invariant c.args.variable _ lt c.index.ensures) c.held.result.now c.held.ensures.all)
