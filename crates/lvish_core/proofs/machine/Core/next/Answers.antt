use Rattle.std.proofs.Common.{arith}
use Rattle.lvish_core.proofs.Ready.{there, beside}
use Rattle.lvish_core.proofs.Seated.{next_there}
use Rattle.lvish_core.proofs.Seats.{place_on, placed_under, posted, read_here, seat_within}
use Rattle.lvish_core.proofs.machine.Core.next.Goals as goal

pub index-requires : goal.index-requires
index-requires g c =
    let seat = rw (← c.self.view_is) at c.in-Some.ensures in
    let lt = seat_within _ _ _ _ _ c.self.invariant seat.stands in
    omega (arith, lt, c.self.invariant.there, c.self.invariant.standing.pictured.table.beside, c.self.inside.handlers.ok.0)

pub index-requires-2 : goal.index-requires-2
index-requires-2 g c =
    let seat = rw (← c.self.view_is) at c.in-Some.ensures in
    let lt = seat_within _ _ _ _ _ c.self.invariant seat.stands in
    omega (arith, lt, c.self.invariant.there, c.self.inside.variables.ok.0)

pub next_at-requires : goal.next_at-requires
next_at-requires g c =
    let seat = rw (← c.self.view_is) at c.in-Some.ensures in
    let lt = seat_within _ _ _ _ _ c.self.invariant seat.stands in
    (c.args.name.now, posted seat c.index.result.now (beside _ _ _ _ _ c.self.invariant _ _ lt c.index.ensures))

pub returns : goal.returns
returns g c =
    let seat = rw (← c.self.view_is) at c.in-Some.ensures in
    let lt = seat_within _ _ _ _ _ c.self.invariant seat.stands in
    let here = beside _ _ _ _ _ c.self.invariant _ _ lt c.index.ensures in
    let at = posted seat c.index.result.now here in
    let placed = placed_under _ _ _ _ _ c.self.invariant (c.handlers_are_held.ensures.posts c.self.inside.program.now) (c.lawful.ensures c.self.inside.program.now) c.args.name.now c.in-Some.field-0 seat seat.stands.beside seat.stands.beside_is seat.held (read_here seat.stands) in
    rw (← c.self.view_is)
    (next_there _ _ _ _ _ c.self.invariant (c.lawful.ensures c.self.inside.program.now) (c.handlers_are_held.ensures.posts c.self.inside.program.now) c.args.name.now (place_on c.in-Some.field-0.variable seat.held) placed
    c.index-2.result.now (there _ _ _ _ _ c.self.invariant _ _ lt c.index-2.ensures) c.index.result.now here c.next_at.result (c.next_at.ensures c.args.name.now at))
