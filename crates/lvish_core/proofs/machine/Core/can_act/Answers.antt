use Rattle.std.proofs.Common.{sym, ◌∙◌}
use Rattle.lvish_core.proofs.Shown.{live_can, live_there}
use Rattle.lvish_core.proofs.machine.Core.can_act.Goals as goal

pub is_ready-requires-clause-gets : goal.is_ready-requires-clause-gets
is_ready-requires-clause-gets g c =
    let there = live_there _ (rw (← c.self.view_is) at c.requires.there) in
    let asked = rw (← c.self.view_is) at c.requires.request in
    rw (← c.self.view_is) (λ v r e. ((g.met.P.Program.lawful c.self.inside.program.now).gets _ v r ((asked _ _ _ _ there.4) ∙ e)).0)

pub is_ready-requires-clause-freezes : goal.is_ready-requires-clause-freezes
is_ready-requires-clause-freezes g c =
    let there = live_there _ (rw (← c.self.view_is) at c.requires.there) in
    let asked = rw (← c.self.view_is) at c.requires.request in
    rw (← c.self.view_is) (λ v pools e. (g.met.P.Program.lawful c.self.inside.program.now).freezes _ v pools ((asked _ _ _ _ there.4) ∙ e))

pub returns : goal.returns
returns g c =
    let there = live_there _ (rw (← c.self.view_is) at c.requires.there) in
    let asked = rw (← c.self.view_is) at c.requires.request in
    let ready = rw (← c.self.view_is) at c.is_ready.ensures in
    rw (← c.self.view_is)
    (live_can _ _ _ _ _ c.self.invariant (sym c.is_some.ensures ∙ c.if-is_some.false) c.args.name.now _ _ _ _ there.4 c.args.request.now (asked _ _ _ _ there.4) c.is_ready.result ready)
