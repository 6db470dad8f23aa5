use Rattle.std.proofs.Common.{◌≡◌, ℕ, Some, refl, sym, ap, ◌∙◌, if◌then◌else◌}
use Rattle.std.specs.Prelude.{slice_get}
use Rattle.std.proofs.lemmas.Bool.{ltb-false}
use Rattle.std.proofs.lemmas.Option.{slice_get_read, slice_get_past, same_Some, none-some}
use Rattle.lvish_board.specs.Stand.{TaskStand}
use Rattle.lvish_board.proofs.Seating.{not_seated, other_seated}
use Rattle.lvish_board.proofs.by_index.ByIndex.find.Goals.{In-Some, In-Some-get}
use Rattle.lvish_board.proofs.by_index.ByIndex.find.Goals as goal

-- what is noted at the index
noted : (g : _) (c : In-Some g) → slice_get c.self.inside.seats.items c.args.index ≡ Some c.in-Some.seat.now
noted g c = rw c.deref.ensures.value at (slice_get_read c.deref.result.now _ c.args.index c.in-Some.seat.now refl c.in-Some.ensures.lookup.3.0 c.in-Some.ensures.lookup.1)

-- what stands there
stands : (g : _) (c : In-Some-get g) → slice_get c.self.inside.asked.items c.in-Some.seat.now ≡ Some c.in-Some-get.asked.now
stands g c = rw c.deref-2.ensures.value at (slice_get_read c.deref-2.result.now _ c.in-Some.seat.now c.in-Some-get.asked.now refl c.in-Some-get.ensures.lookup.3.0 c.in-Some-get.ensures.lookup.1)

pub returns-in_default : goal.returns-in_default
returns-in_default g c =
    let none = rw c.deref.ensures.value at (slice_get_past c.deref.result.now c.args.index (ltb-false c.args.index _ (sym c.in_default.ensures.lookup.0))) in
    rw (← c.self.view_is) (not_seated _ _ c.self.invariant c.args.index none)

pub returns-in_default-get : goal.returns-in_default-get
returns-in_default-get g c =
    let none = rw c.deref-2.ensures.value at (slice_get_past c.deref-2.result.now c.in-Some.seat.now (ltb-false c.in-Some.seat.now _ (sym c.in_default-get.ensures.lookup.0))) in
    rw (← c.self.view_is) (other_seated _ _ c.self.invariant c.args.index c.in-Some.seat.now (noted g (goal.at.returns-in_default-get g c).In-Some) (λ v there. none-some _ (sym none ∙ there)))

pub returns-then-asked-index : goal.returns-then-asked-index
returns-then-asked-index g c =
    let here = stands g (goal.at.returns-then-asked-index g c).In-Some-get in
    (c.in-Some-get.asked.now.1, rw (← c.self.view_is) (here ∙ ap (λ i. Some (i, c.in-Some-get.asked.now.1)) c.if-asked-index.true))

pub returns-else-asked-index : goal.returns-else-asked-index
returns-else-asked-index g c =
    let at = goal.at.returns-else-asked-index g c in
    rw (← c.self.view_is) (other_seated _ _ c.self.invariant c.args.index c.in-Some.seat.now (noted g at.In-Some) (λ v there. c.if-asked-index.false (ap (λ (e : ℕ × TaskStand g.row.P-Lat-Event.Denot g.row.P-Local.Denot). e.0) (same_Some _ (c.args.index, v) (sym (stands g at.In-Some-get) ∙ there)))))
