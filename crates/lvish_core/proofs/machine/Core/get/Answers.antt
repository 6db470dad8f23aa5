use Rattle.std.proofs.Common.{◌≡◌, ◌∙◌, sym, ◌<◌, length, arith, refl}
use Rattle.lvish_core.proofs.Gets.{get_some}
use Rattle.lvish_core.proofs.Acts.{get_answered, get_waits}
use Rattle.lvish_core.proofs.machine.Core.get.Goals as goal

pub go_on-requires-clause-replied : goal.go_on-requires-clause-replied
go_on-requires-clause-replied g c =
    let asked = rw (← c.self.view_is) at c.requires.asked in
    let known : c.args.variable < (g.P.Program.functions c.self.inside.program.now).variables = ((g.met.P.Program.lawful c.self.inside.program.now).gets asked.local c.args.variable c.args.read.now asked.asking.asked).0 in
    let there : length c.self.inside.variables.items ≡ (g.P.Program.functions c.self.inside.program.now).variables = c.self.invariant.there in
    rw (← c.self.view_is)
    (get_answered asked c.index.result.now (get_some c.self.inside.variables.items c.args.variable c.index.result.now (omega arith) c.index.ensures) c.in-Some.answer (sym c.read.ensures ∙ c.in-Some.is))

pub returns-in-None-clause-acts : goal.returns-in-None-clause-acts
returns-in-None-clause-acts g c =
    let asked = rw (← c.self.view_is) at c.requires.asked in
    let known : c.args.variable < (g.P.Program.functions c.self.inside.program.now).variables = ((g.met.P.Program.lawful c.self.inside.program.now).gets asked.local c.args.variable c.args.read.now asked.asking.asked).0 in
    let there : length c.self.inside.variables.items ≡ (g.P.Program.functions c.self.inside.program.now).variables = c.self.invariant.there in
    rw (← c.self.view_is)
    (get_waits asked c.index.result.now (get_some c.self.inside.variables.items c.args.variable c.index.result.now (omega arith) c.index.ensures) (sym c.read.ensures ∙ c.in-None.is), refl)
