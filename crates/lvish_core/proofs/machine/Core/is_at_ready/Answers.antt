use Rattle.std.proofs.Common.{◌∙◌, sym}
use Rattle.lvish_core.proofs.machine.Core.is_at_ready.Goals as goal

pub is_ready-requires-clause-gets : goal.is_ready-requires-clause-gets
is_ready-requires-clause-gets g c =
    rw (← c.self.view_is) (λ v r e. ((g.met.P.Program.lawful c.self.inside.program.now).gets _ v r (sym c.in_ok-asks-in-Live.ensures.request ∙ e)).0)

pub is_ready-requires-clause-freezes : goal.is_ready-requires-clause-freezes
is_ready-requires-clause-freezes g c =
    rw (← c.self.view_is) (λ v pools e. (g.met.P.Program.lawful c.self.inside.program.now).freezes _ v pools (sym c.in_ok-asks-in-Live.ensures.request ∙ e))
