use Rattle.std.proofs.Common.{refl, sym, ◌∙◌, arith}
use Rattle.lvish_core.proofs.Ready.{beside}
use Rattle.lvish_core.proofs.Seated.{placed, none_next}
use Rattle.lvish_core.proofs.Seats.{none_there, seat_from}
use Rattle.lvish_core.proofs.machine.Core.search.Goals as goal

pub returns-in_default : goal.returns-in_default
returns-in_default g c = rw (← c.self.view_is)
    (none_next _ _ _ _ _ c.self.invariant (c.lawful.ensures c.self.inside.program.now) (c.handlers_are_held.ensures.posts c.self.inside.program.now) c.args.name.now (sym c.get.ensures ∙ c.in_default.is))

pub index-requires : goal.index-requires
index-requires g c =
    let lt = placed _ _ _ _ _ c.self.invariant (g.met.P.Program.lawful c.self.inside.program.now).known c.args.name.now c.in-Some.field-0 (sym c.get.ensures ∙ c.in-Some.is) in
    omega (arith, lt, c.self.invariant.there, c.self.invariant.standing.pictured.table.beside, c.self.inside.handlers.ok.0)

pub returns-in_default-find : goal.returns-in_default-find
returns-in_default-find g c =
    let lt = placed _ _ _ _ _ c.self.invariant (g.met.P.Program.lawful c.self.inside.program.now).known c.args.name.now c.in-Some.field-0 (sym c.get.ensures ∙ c.in-Some.is) in
    rw (← c.self.view_is)
    (none_there _ _ _ _ _ c.self.invariant (c.handlers_are_held.ensures.posts c.self.inside.program.now) (c.lawful.ensures c.self.inside.program.now) c.args.name.now c.in-Some.field-0 (sym c.get.ensures ∙ c.in-Some.is)
    c.index.result.now (beside _ _ _ _ _ c.self.invariant _ _ lt c.index.ensures) (c.in_default-find.ensures.none refl))

pub returns : goal.returns
returns g c =
    let lt = placed _ _ _ _ _ c.self.invariant (g.met.P.Program.lawful c.self.inside.program.now).known c.args.name.now c.in-Some.field-0 (sym c.get.ensures ∙ c.in-Some.is) in
    rw (← c.self.view_is) (seat_from _ _ _ (beside _ _ _ _ _ c.self.invariant _ _ lt c.index.ensures) c.in-Some-find.ensures.found)
