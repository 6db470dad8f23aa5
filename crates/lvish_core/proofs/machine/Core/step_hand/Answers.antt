use Rattle.std.proofs.Common.{sym, ◌∙◌, arith}
use Rattle.lvish_core.proofs.Shown.{is_full, not_full}
use Rattle.lvish_core.proofs.Seated.{at_end_none, next_taken, is_handing}
use Rattle.lvish_core.proofs.Seats.{place_on, placed_under, posted, seat_within}
use Rattle.lvish_core.proofs.Ready.{there, beside}
use Rattle.lvish_core.proofs.machine.Core.step_hand.Goals as goal

pub returns-in_default-clause-refused : goal.returns-in_default-clause-refused
returns-in_default-clause-refused g c = λ e z. c.in_default.ensures e z.1

pub index-beside-requires : goal.index-beside-requires
index-beside-requires g c =
    let seat = rw (← c.self.view_is) at c.in-Some.ensures in
    let lt = seat_within _ _ _ _ _ c.self.invariant seat.stands in
    omega (arith, lt, c.self.invariant.there, c.self.invariant.standing.pictured.table.beside, c.self.inside.handlers.ok.0)

pub index-requires : goal.index-requires
index-requires g c =
    let seat = rw (← c.self.view_is) at c.in-Some.ensures in
    let lt = seat_within _ _ _ _ _ c.self.invariant seat.stands in
    omega (arith, lt, c.self.invariant.there, c.self.inside.variables.ok.0)

pub next_at-requires : goal.next_at-requires
next_at-requires g c =
    let seat = rw (← c.self.view_is) at c.in-Some.ensures in
    let lt = seat_within _ _ _ _ _ c.self.invariant seat.stands in
    (c.args.name.now, posted seat c.index-beside.result.now (beside _ _ _ _ _ c.self.invariant _ _ lt c.index-beside.ensures))

pub returns-in_default-next_at-clause-refused : goal.returns-in_default-next_at-clause-refused
returns-in_default-next_at-clause-refused g c =
    let seat = rw (← c.self.view_is) at c.in-Some.ensures in
    let lt = seat_within _ _ _ _ _ c.self.invariant seat.stands in
    let here = beside _ _ _ _ _ c.self.invariant _ _ lt c.index-beside.ensures in
    let place = place_on c.in-Some.field-0.variable c.index-held-at.result in
    let placed = placed_under _ _ _ _ _ c.self.invariant (c.handlers_are_held.ensures.posts c.self.inside.program.now) (c.lawful.ensures c.self.inside.program.now) c.args.name.now c.in-Some.field-0 seat c.index-beside.result.now here c.index-held-at.result (rw c.held.ensures.all at c.index-held-at.is) in
    rw (← c.self.view_is)
    (at_end_none _ _ _ _ _ c.self.invariant (c.lawful.ensures c.self.inside.program.now) (c.handlers_are_held.ensures.posts c.self.inside.program.now) c.args.name.now place placed
    c.index.result.now (there _ _ _ _ _ c.self.invariant _ _ lt c.index.ensures) c.index-beside.result.now here (sym (c.next_at.ensures c.args.name.now (posted seat c.index-beside.result.now here)) ∙ c.in_default-next_at.is))

pub returns-then-is_full-clause-refused : goal.returns-then-is_full-clause-refused
returns-then-is_full-clause-refused g c =
    let seat = rw (← c.self.view_is) at c.in-Some.ensures in
    let lt = seat_within _ _ _ _ _ c.self.invariant seat.stands in
    let here = beside _ _ _ _ _ c.self.invariant _ _ lt c.index-beside.ensures in
    let place = place_on c.in-Some.field-0.variable c.index-held-at.result in
    let placed = placed_under _ _ _ _ _ c.self.invariant (c.handlers_are_held.ensures.posts c.self.inside.program.now) (c.lawful.ensures c.self.inside.program.now) c.args.name.now c.in-Some.field-0 seat c.index-beside.result.now here c.index-held-at.result (rw c.held.ensures.all at c.index-held-at.is) in
    let full = rw (← c.self.view_is) at c.is_full.ensures in
    rw (← c.self.view_is) (
      c.in-Some-next_at.event,
      next_taken _ _ _ _ _ c.self.invariant (c.lawful.ensures c.self.inside.program.now) (c.handlers_are_held.ensures.posts c.self.inside.program.now) c.args.name.now place placed
          c.index.result.now (there _ _ _ _ _ c.self.invariant _ _ lt c.index.ensures) c.index-beside.result.now here
          (c.handed_next.ensures.next c.self.inside.program.now) (sym c.is_some.ensures ∙ c.if-is_some.false) c.in-Some-next_at.event (sym (c.next_at.ensures c.args.name.now (posted seat c.index-beside.result.now here)) ∙ c.in-Some-next_at.is),
      is_full c.self.inside.steps c.is_full.result c.self.invariant.steps full c.if-is_full.true,
    )

pub hand-requires-clause-at : goal.hand-requires-clause-at
hand-requires-clause-at g c =
    let seat = rw (← c.self.view_is) at c.in-Some.ensures in
    rw (c.new-place.ensures, ← c.self.view_is) (λ hs is. posted seat hs is)

pub hand-requires-clause-handing : goal.hand-requires-clause-handing
hand-requires-clause-handing g c =
    let seat = rw (← c.self.view_is) at c.in-Some.ensures in
    let lt = seat_within _ _ _ _ _ c.self.invariant seat.stands in
    let here = beside _ _ _ _ _ c.self.invariant _ _ lt c.index-beside.ensures in
    let place = place_on c.in-Some.field-0.variable c.index-held-at.result in
    let placed = placed_under _ _ _ _ _ c.self.invariant (c.handlers_are_held.ensures.posts c.self.inside.program.now) (c.lawful.ensures c.self.inside.program.now) c.args.name.now c.in-Some.field-0 seat c.index-beside.result.now here c.index-held-at.result (rw c.held.ensures.all at c.index-held-at.is) in
    rw (c.new-place.ensures, ← c.self.view_is)
    (is_handing _ _ _ _ _ c.self.invariant (c.lawful.ensures c.self.inside.program.now) (c.handlers_are_held.ensures.posts c.self.inside.program.now) c.args.name.now place placed
    c.index.result.now (there _ _ _ _ _ c.self.invariant _ _ lt c.index.ensures) c.index-beside.result.now here
    (sym c.is_some.ensures ∙ c.if-is_some.false) c.in-Some-next_at.event (sym (c.next_at.ensures c.args.name.now (posted seat c.index-beside.result.now here)) ∙ c.in-Some-next_at.is))

pub hand-requires-clause-room : goal.hand-requires-clause-room
hand-requires-clause-room g c =
    let full = rw (← c.self.view_is) at c.is_full.ensures in
    rw (← c.self.view_is) (not_full c.self.inside.steps c.is_full.result full c.if-is_full.false)
