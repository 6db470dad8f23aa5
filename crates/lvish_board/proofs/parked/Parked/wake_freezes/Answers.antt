use Rattle.std.proofs.Common.{◌≡◌, ◌+◌, ◌<◌, [], length, None, Some, refl, sym, ap, subst, ◌∙◌, arith, true≢false}
use Rattle.std.proofs.Math.Nat.{lt_of_not-le}
use Rattle.std.proofs.lemmas.Option.{slice_get-get_or, slice_get_past}
use Rattle.std.specs.Prelude.{slice_get, slice_set, vec_len}
use Rattle.lvish_calculus.specs.Handing.{IsAmong}
use Rattle.lvish_core.specs.declared.touched.Touched.TheVariants.{Handed}
use Rattle.lvish_board.specs.Shelved.{list_items}
use Rattle.lvish_board.specs.Woken.{MayWake}
use Rattle.lvish_board.proofs.Lists.{freezes_on, stays_on}
use Rattle.lvish_board.proofs.Seating.{index_among, of_stand}
use Rattle.lvish_board.proofs.Shelving.{listed_kept}
use Rattle.lvish_board.proofs.Waking.{wakes_fewer, wakes_none}
use Rattle.lvish_board.proofs.parked.Parked.wake_freezes.Goals as goal

pub invariant_of-self : goal.invariant_of-self
invariant_of-self g c = λ e i.
    let inside : c.args.variable < length c.self.inside.freezes.lists.items = omega (arith, c.in-Some.ensures.variant.0 refl, c.self.inside.freezes.lists.ok.0) in
    let at : slice_get c.self.inside.freezes.lists.items c.args.variable ≡ Some c.in-Some.indices.now = slice_get-get_or _ _ c.in-Some.indices.now inside ∙ ap Some (sym c.in-Some.ensures.value) in
    let was = c.self.invariant e (c.wake_each.ensures.within e i) in
    stays_on g.P.Lat.Spot.PartialEq.eq g.P.Lat.Reads.watched c.self.inside.whole.lists.items c.self.inside.whole.lists.items c.self.inside.spots.tables.items c.self.inside.spots.tables.items c.self.inside.freezes.lists.items (slice_set c.self.inside.freezes.lists.items c.args.variable c.wake_each.new.indices) ((g.P.Program.functions g.B.BoardBrand.program).request e.1.from) e.0 (λ v on. on) (λ v w on. on) (λ k. listed_kept c.self.inside.freezes.lists.items c.args.variable c.wake_each.new.indices k e.0 (λ on. c.wake_each.ensures.left e.0 (index_among e c.wake_each.new.self i) (subst (λ s. IsAmong e.0 (list_items s)) at on))) was

pub returns-in-Some-clause-wakes : goal.returns-in-Some-clause-wakes
returns-in-Some-clause-wakes g c =
    let inside : c.args.variable < length c.self.inside.freezes.lists.items = omega (arith, c.in-Some.ensures.variant.0 refl, c.self.inside.freezes.lists.ok.0) in
    let at : slice_get c.self.inside.freezes.lists.items c.args.variable ≡ Some c.in-Some.indices.now = slice_get-get_or _ _ c.in-Some.indices.now inside ∙ ap Some (sym c.in-Some.ensures.value) in
    rw (← c.self.view_is) (wakes_fewer _ _ _ _ _ _ _ c.wake_each.ensures.wakes (λ p i may.
    let here = subst (λ x. MayWake g.P.Lat.Reads.spot_of g.P.Lat.Reads.watched (Some (Handed c.args.variable)) [] ((g.P.Program.functions x).request p.from)) c.requires.program may in
    let r = of_stand p c.wake_each.new.self i in
    let was = c.wake_each.ensures.within (r.0, p) r.1 in
    let on = freezes_on g.P.Lat.Spot.PartialEq.eq g.P.Lat.Reads.watched c.self.inside.whole.lists.items c.self.inside.spots.tables.items c.self.inside.freezes.lists.items c.args.variable ((g.P.Program.functions g.B.BoardBrand.program).request p.from) r.0 (c.self.invariant (r.0, p) was) g.P.Lat.Reads.spot_of [] here in
    (r.0, subst (λ o. IsAmong r.0 (list_items o)) at on, was)))

pub returns-in-Some-clause-within : goal.returns-in-Some-clause-within
returns-in-Some-clause-within g c = λ e i. subst (λ es. IsAmong e es) c.self.view_is (c.wake_each.ensures.within e i)

pub returns-in_default-clause-wakes : goal.returns-in_default-clause-wakes
returns-in_default-clause-wakes g c =
    let past = lt_of_not-le {n = c.args.variable + 1} {m = length c.self.inside.freezes.lists.items} (λ le.
    let inside : c.args.variable < vec_len c.self.inside.freezes.lists = omega (arith, le, c.self.inside.freezes.lists.ok.0) in
    true≢false (sym (c.in_default.ensures.variant.1 inside))) in
    let at : slice_get c.self.inside.freezes.lists.items c.args.variable ≡ None = slice_get_past c.self.inside.freezes.lists.items c.args.variable (omega (arith, past)) in
    rw (← c.self.view_is) (wakes_none _ _ _ _ (λ p i may can.
    let here = subst (λ x. MayWake g.P.Lat.Reads.spot_of g.P.Lat.Reads.watched (Some (Handed c.args.variable)) [] ((g.P.Program.functions x).request p.from)) c.requires.program may in
    let r = of_stand p c.self.inside.tasks i in
    subst (λ o. IsAmong r.0 (list_items o)) at (freezes_on g.P.Lat.Spot.PartialEq.eq g.P.Lat.Reads.watched c.self.inside.whole.lists.items c.self.inside.spots.tables.items c.self.inside.freezes.lists.items c.args.variable ((g.P.Program.functions g.B.BoardBrand.program).request p.from) r.0 (c.self.invariant (r.0, p) r.1) g.P.Lat.Reads.spot_of [] here)))
