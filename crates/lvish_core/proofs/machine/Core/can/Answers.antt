use Rattle.std.proofs.Common.{sym, ap, ◌∙◌, option_copied}
use Rattle.lvish_core.specs.Tasks.{standing, standing_at}
use Rattle.lvish_core.proofs.Shown.{live_can}
use Rattle.lvish_core.proofs.machine.Core.can.Goals as goal

pub is_ready-requires-clause-gets : goal.is_ready-requires-clause-gets
is_ready-requires-clause-gets g c =
    let live = c.get.ensures ∙ ap (λ o. standing_at (option_copied o)) c.in-Some-Live.is ∙ ap standing c.in-Some-Live.field-0-is in
    let asked = rw (← c.self.view_is) at c.requires in
    rw (← c.self.view_is) (λ v r e. ((g.met.P.Program.lawful c.self.inside.program.now).gets _ v r ((asked _ _ _ _ live) ∙ e)).0)

pub is_ready-requires-clause-freezes : goal.is_ready-requires-clause-freezes
is_ready-requires-clause-freezes g c =
    let live = c.get.ensures ∙ ap (λ o. standing_at (option_copied o)) c.in-Some-Live.is ∙ ap standing c.in-Some-Live.field-0-is in
    let asked = rw (← c.self.view_is) at c.requires in
    rw (← c.self.view_is) (λ v pools e. (g.met.P.Program.lawful c.self.inside.program.now).freezes _ v pools ((asked _ _ _ _ live) ∙ e))

pub returns-in-Some-Live : goal.returns-in-Some-Live
returns-in-Some-Live g c =
    let live = c.get.ensures ∙ ap (λ o. standing_at (option_copied o)) c.in-Some-Live.is ∙ ap standing c.in-Some-Live.field-0-is in
    let asked = rw (← c.self.view_is) at c.requires in
    let ready = rw (← c.self.view_is) at c.is_ready.ensures in
    rw (← c.self.view_is)
    (live_can _ _ _ _ _ c.self.invariant (sym c.is_some.ensures ∙ c.if-is_some.false) c.args.name.now _ _ _ _ live c.args.request.now (asked _ _ _ _ live) c.is_ready.result ready)
