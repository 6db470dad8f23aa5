use Rattle.std.proofs.Common.{◌≡◌, None, Some, refl, sym, subst}
use Rattle.std.specs.Prelude.{slice_get}
use Rattle.std.proofs.lemmas.Bool.{ltb-false, not-false}
use Rattle.std.proofs.lemmas.Option.{slice_get_read, slice_get_past}
use Rattle.lvish_calculus.specs.Handing.{IsAmong}
use Rattle.lvish_board.specs.Seated.{stands_of}
use Rattle.lvish_board.specs.Shelved.{shelf_of}
use Rattle.lvish_board.proofs.Lists.{waits_on}
use Rattle.lvish_board.proofs.Seating.{of_stand}
use Rattle.lvish_board.proofs.Shelving.{empty_shelf}
use Rattle.lvish_board.proofs.parked.Parked.has_spots.Goals as goal

pub returns-in-Some : goal.returns-in-Some
returns-in-Some g c = λ none w p i waits.
    let at : slice_get c.self.inside.spots.tables.items c.args.variable ≡ Some c.in-Some.lists.now = rw c.deref.ensures.value at (slice_get_read c.deref.result.now _ c.args.variable c.in-Some.lists.now refl c.in-Some.ensures.lookup.3.0 c.in-Some.ensures.lookup.1) in
    let here = subst (λ ps. IsAmong p (stands_of ps)) (sym c.self.view_is) i in
    let r = of_stand p c.self.inside.tasks here in
    let on = waits_on g.P.Lat.Spot.PartialEq.eq g.P.Lat.Reads.watched c.self.inside.whole.lists.items c.self.inside.spots.tables.items c.self.inside.freezes.lists.items c.args.variable (Some w) ((g.P.Program.functions g.B.BoardBrand.program).request p.from) r.0 (c.self.invariant (r.0, p) r.1) waits in
    empty_shelf g.P.Lat.Spot.PartialEq.eq c.in-Some.lists.now (c.is_empty.ensures.0 (not-false c.is_empty.result none)) w r.0 (subst (λ o. IsAmong r.0 (shelf_of g.P.Lat.Spot.PartialEq.eq o w)) at on)

pub returns-in-None : goal.returns-in-None
returns-in-None g c = λ none w p i waits.
    let at : slice_get c.self.inside.spots.tables.items c.args.variable ≡ None = rw c.deref.ensures.value at (slice_get_past c.deref.result.now c.args.variable (ltb-false c.args.variable _ (sym c.in-None.ensures.lookup.0))) in
    let here = subst (λ ps. IsAmong p (stands_of ps)) (sym c.self.view_is) i in
    let r = of_stand p c.self.inside.tasks here in
    subst (λ o. IsAmong r.0 (shelf_of g.P.Lat.Spot.PartialEq.eq o w)) at (waits_on g.P.Lat.Spot.PartialEq.eq g.P.Lat.Reads.watched c.self.inside.whole.lists.items c.self.inside.spots.tables.items c.self.inside.freezes.lists.items c.args.variable (Some w) ((g.P.Program.functions g.B.BoardBrand.program).request p.from) r.0 (c.self.invariant (r.0, p) r.1) waits)
