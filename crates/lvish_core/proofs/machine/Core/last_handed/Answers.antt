use Rattle.std.proofs.Common.{refl}
use Rattle.std.proofs.lemmas.Option.{slice_get_read}
use Rattle.lvish_core.proofs.Seats.{posted_at}
use Rattle.lvish_core.proofs.machine.Core.last_handed.Goals as goal

pub returns : goal.returns
returns g c =
    let seat = c.self.inside.last_seat in
    let beside = rw c.deref.ensures.value at (slice_get_read c.deref.result.now _ seat.variable c.in_ok-beside.beside.now refl c.in_ok-beside.ensures.lookup.3.0 c.in_ok-beside.ensures.lookup.1) in
    let is = rw c.held.ensures.all at (slice_get_read c.held.result.now _ seat.at c.in_ok-held.held.now refl c.in_ok-held.ensures.lookup.3.0 c.in_ok-held.ensures.lookup.1) in
    rw (← c.self.view_is) (posted_at _ _ _ _ _ c.self.invariant (c.handlers_are_held.ensures.posts c.self.inside.program.now) c.in_ok-held.held.now seat (record { beside = c.in_ok-beside.beside.now; beside_is = beside; is = is }))
