use Rattle.std.proofs.Common.{sym, ◌∙◌, refl}
use Rattle.lvish_core.proofs.Seated.{other_refused, handed_it, refused_it, goes_on}
use Rattle.lvish_core.proofs.machine.Core.step_event.Goals as goal

pub returns-in_default : goal.returns-in_default
returns-in_default g c =
    let next = rw (← c.self.view_is) at c.in-Some.ensures in
    rw (← c.self.view_is)
    (other_refused _ _ _ _ _ c.self.invariant (c.lawful.ensures c.self.inside.program.now) (c.handlers_are_held.ensures.posts c.self.inside.program.now) c.args.name.now c.in-Some.next c.args.event.now next (sym c.eq.ensures ∙ c.if-eq.false), refl)

pub returns-in_default-2 : goal.returns-in_default-2
returns-in_default-2 g c =
    let none = rw (← c.self.view_is, c.in_default.is) at c.next.ensures in
    rw (← c.self.view_is) (λ z. none c.args.event.now z.1, refl)

pub returns-in_err-stepped : goal.returns-in_err-stepped
returns-in_err-stepped g c =
    let next = rw (← c.self.view_is) at c.in-Some.ensures in
    let refused = rw (← c.self.view_is) at c.in_err-stepped.ensures.refused in
    let kept = rw (← c.self.view_is) at c.in_err-stepped.ensures.kept in
    rw (← c.self.view_is)
    (goes_on _ _ c.step_hand.new.self _ c.from_residual.result c.in_err-stepped.field-0.0 c.from_residual.ensures.1
    (refused_it _ _ _ _ _ c.self.invariant (c.lawful.ensures c.self.inside.program.now) (c.handlers_are_held.ensures.posts c.self.inside.program.now) c.args.name.now (c.handed_next.ensures.next c.self.inside.program.now) (sym c.is_some.ensures ∙ c.if-is_some.false)
    c.in-Some.next c.args.event.now next (sym c.eq.ensures ∙ c.if-eq.true) c.in_err-stepped.field-0.0 refused) kept)

pub returns : goal.returns
returns g c =
    let next = rw (← c.self.view_is) at c.in-Some.ensures in
    let handed = rw (← c.self.view_is) at c.in_ok-stepped.ensures.handed in
    rw (← c.self.view_is)
    (handed_it _ _ _ _ _ c.self.invariant (c.lawful.ensures c.self.inside.program.now) (c.handlers_are_held.ensures.posts c.self.inside.program.now) c.args.name.now c.in-Some.next c.args.event.now next (sym c.eq.ensures ∙ c.if-eq.true) c.step_hand.new.self _ _ handed)
