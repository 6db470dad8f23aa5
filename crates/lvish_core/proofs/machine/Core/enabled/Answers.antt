use Rattle.std.proofs.Common.{sym, ap, ◌∙◌, option_copied}
use Rattle.std.proofs.lemmas.Result.{IfOk-weaker}
use Rattle.lvish_core.specs.Tasks.{standing_at}
use Rattle.lvish_core.proofs.Shown.{task_can}
use Rattle.lvish_core.proofs.Seated.{hand_can}
use Rattle.lvish_core.proofs.machine.Core.enabled.Goals as goal

pub returns-in-Some : goal.returns-in-Some
returns-in-Some g c =
    let there = c.get.ensures ∙ ap (λ o. standing_at (option_copied o)) c.in-Some.is in
    let ready = rw (← c.self.view_is) at c.is_at_ready.ensures in
    rw (← c.self.view_is, c.in-Act.is)
    (IfOk-weaker c.is_at_ready.result _ _ (λ b is. task_can _ _ _ _ _ c.self.invariant (sym c.is_some.ensures ∙ c.if-is_some.false) c.in-Act.name _ there b is) ready)

pub returns-in-Some-next : goal.returns-in-Some-next
returns-in-Some-next g c =
    let next = rw (← c.self.view_is, c.in-Some-next.is) at c.next.ensures in
    rw (← c.self.view_is, c.in-Hand.is)
    (hand_can _ _ _ _ _ c.self.invariant (c.lawful.ensures c.self.inside.program.now) (c.handlers_are_held.ensures.posts c.self.inside.program.now) (c.handed_next.ensures.next c.self.inside.program.now)
    (sym c.is_some.ensures ∙ c.if-is_some.false) c.in-Hand.name c.in-Some-next.next c.in-Hand.event next c.eq.result c.eq.ensures)
