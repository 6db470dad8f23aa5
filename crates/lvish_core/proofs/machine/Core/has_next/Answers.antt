use Rattle.std.proofs.Common.{sym, refl, ◌∙◌, arith}
use Rattle.lvish_calculus.proofs.Names.{same_handler-true}
use Rattle.lvish_core.proofs.Ready.{there, beside}
use Rattle.lvish_core.proofs.Seated.{comes_next, next_there}
use Rattle.lvish_core.proofs.Seats.{place_on, placed_under, posted, read_here, seat_of_last, seat_within}
use Rattle.lvish_core.proofs.machine.Core.has_next.Goals as goal

pub index-requires : goal.index-requires
index-requires g c =
    let last = rw (← c.self.view_is) at c.in-Some.ensures in
    let lt = seat_within _ _ _ _ _ c.self.invariant last.stands in
    omega (arith, lt, c.self.invariant.there, c.self.invariant.standing.pictured.table.beside, c.self.inside.handlers.ok.0)

pub index-requires-in-Some : goal.index-requires-in-Some
index-requires-in-Some g c =
    let last = rw (← c.self.view_is) at c.in-Some.ensures in
    let lt = seat_within _ _ _ _ _ c.self.invariant last.stands in
    omega (arith, lt, c.self.invariant.there, c.self.inside.variables.ok.0)

pub next_at-requires : goal.next_at-requires
next_at-requires g c =
    let last = rw (← c.self.view_is) at c.in-Some.ensures in
    let lt = seat_within _ _ _ _ _ c.self.invariant last.stands in
    (c.in-Some.last.now.name, posted (seat_of_last last.stands refl) c.index.result.now (beside _ _ _ _ _ c.self.invariant _ _ lt c.index.ensures))

pub returns-in-Some : goal.returns-in-Some
returns-in-Some g c =
    let last = rw (← c.self.view_is) at c.in-Some.ensures in
    let lt = seat_within _ _ _ _ _ c.self.invariant last.stands in
    let seat = seat_of_last last.stands (same_handler-true _ (c.lawful.ensures c.self.inside.program.now).event_same_is _ c.args.name.now (sym c.eq.ensures ∙ c.if-eq.true)) in
    let here = beside _ _ _ _ _ c.self.invariant _ _ lt c.index.ensures in
    let placed = placed_under _ _ _ _ _ c.self.invariant (c.handlers_are_held.ensures.posts c.self.inside.program.now) (c.lawful.ensures c.self.inside.program.now) c.args.name.now c.in-Some.field-0-0 seat seat.stands.beside seat.stands.beside_is seat.held (read_here seat.stands) in
    let comes = comes_next c.next_at.result
    (next_there _ _ _ _ _ c.self.invariant (c.lawful.ensures c.self.inside.program.now) (c.handlers_are_held.ensures.posts c.self.inside.program.now) c.args.name.now (place_on c.in-Some.field-0-0.variable seat.held) placed
    c.index-in-Some.result.now (there _ _ _ _ _ c.self.invariant _ _ lt c.index-in-Some.ensures) c.index.result.now here c.next_at.result (c.next_at.ensures c.args.name.now (posted seat c.index.result.now here))) in
    rw (← c.self.view_is) (λ t. comes.0 (sym c.is_some.ensures ∙ t), λ z. c.is_some.ensures ∙ comes.1 z)

pub returns-in_default : goal.returns-in_default
returns-in_default g c =
    let comes = comes_next _ c.next.ensures in
    (λ t. comes.0 (sym c.is_some-in_default.ensures ∙ t), λ z. c.is_some-in_default.ensures ∙ comes.1 z)
