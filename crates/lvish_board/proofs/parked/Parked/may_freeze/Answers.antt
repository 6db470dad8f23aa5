use Rattle.std.proofs.Common.{◌≡◌, None, Some, refl, sym, subst, ◌∙◌}
use Rattle.std.specs.Prelude.{slice_get}
use Rattle.std.proofs.lemmas.Bool.{eqb-true, ltb-false}
use Rattle.std.proofs.lemmas.Option.{slice_get_read, slice_get_past}
use Rattle.lvish_calculus.specs.Handing.{IsAmong}
use Rattle.lvish_core.specs.declared.touched.Touched.TheVariants.{Handed}
use Rattle.lvish_board.specs.Seated.{stands_of}
use Rattle.lvish_board.specs.Shelved.{list_items}
use Rattle.lvish_board.specs.Woken.{MayWake}
use Rattle.lvish_board.proofs.Lists.{freezes_on}
use Rattle.lvish_board.proofs.Seating.{of_stand}
use Rattle.lvish_board.proofs.Shelving.{empty_list}
use Rattle.lvish_board.proofs.Woken.{may_freeze}
use Rattle.lvish_board.proofs.parked.Parked.may_freeze.Goals as goal

pub returns-in_default : goal.returns-in_default
returns-in_default g c = λ none fresh p i may can.
    let at : slice_get c.self.inside.freezes.lists.items c.args.variable ≡ None = rw c.deref.ensures.value at (slice_get_past c.deref.result.now c.args.variable (ltb-false c.args.variable _ (sym c.in_default.ensures.lookup.0))) in
    let here = subst (λ x. MayWake g.P.Lat.Reads.spot_of g.P.Lat.Reads.watched (Some (Handed c.args.variable)) fresh ((g.P.Program.functions x).request p.from)) c.requires.program may in
    let r = of_stand p c.self.inside.tasks (subst (λ ps. IsAmong p (stands_of ps)) (sym c.self.view_is) i) in
    subst (λ o. IsAmong r.0 (list_items o)) at (freezes_on g.P.Lat.Spot.PartialEq.eq g.P.Lat.Reads.watched c.self.inside.whole.lists.items c.self.inside.spots.tables.items c.self.inside.freezes.lists.items c.args.variable ((g.P.Program.functions g.B.BoardBrand.program).request p.from) r.0 (c.self.invariant (r.0, p) r.1) g.P.Lat.Reads.spot_of fresh here)

pub returns-then-is_empty : goal.returns-then-is_empty
returns-then-is_empty g c = λ none fresh p i may can.
    let at : slice_get c.self.inside.freezes.lists.items c.args.variable ≡ Some c.in-Some.indices.now = rw c.deref.ensures.value at (slice_get_read c.deref.result.now _ c.args.variable c.in-Some.indices.now refl c.in-Some.ensures.lookup.3.0 c.in-Some.ensures.lookup.1) in
    let here = subst (λ x. MayWake g.P.Lat.Reads.spot_of g.P.Lat.Reads.watched (Some (Handed c.args.variable)) fresh ((g.P.Program.functions x).request p.from)) c.requires.program may in
    let r = of_stand p c.self.inside.tasks (subst (λ ps. IsAmong p (stands_of ps)) (sym c.self.view_is) i) in
    let on = subst (λ o. IsAmong r.0 (list_items o)) at (freezes_on g.P.Lat.Spot.PartialEq.eq g.P.Lat.Reads.watched c.self.inside.whole.lists.items c.self.inside.spots.tables.items c.self.inside.freezes.lists.items c.args.variable ((g.P.Program.functions g.B.BoardBrand.program).request p.from) r.0 (c.self.invariant (r.0, p) r.1) g.P.Lat.Reads.spot_of fresh here) in
    empty_list c.in-Some.indices.now.items r.0 (eqb-true _ _ (sym c.is_empty.ensures ∙ c.if-is_empty.true)) on

pub returns : goal.returns
returns g c = λ none fresh p i may can.
    let freeze = may_freeze g.P.Lat.Reads.spot_of g.P.Lat.Reads.watched c.args.variable fresh ((g.P.Program.functions c.args.core.now.program).request p.from) may in
    c.is_drained_at.ensures.freezes none p.task p.from freeze.0 (c.requires.current p i) freeze.1 can
