use Rattle.lvish_core.proofs.Begins.{begun, begins_kept}
use Rattle.lvish_core.proofs.machine.Core.new.Goals as goal

pub invariant_of-result : goal.invariant_of-result
invariant_of-result g c =
    let sets = rw (c.started-main.ensures, c.in_ok-start.ensures, c.main.ensures, c.new-tasks.ensures) at c.in_ok-push.ensures.set in
    begins_kept _ (c.lawful.ensures c.args.program.now) (c.begun_is_pictured.ensures c.args.program.now) c.args.program.now (g.P.Program.functions c.args.program.now).variables _ c.in-Some.pools c.variables-count.ensures
    _ c.in_ok-variables.ensures _ c.in_ok-handlers.ensures c.in-Some.ensures _ sets _ c.new.ensures _ c.new-2.ensures.items

pub returns : goal.returns
returns g c =
    let sets = rw (c.started-main.ensures, c.in_ok-start.ensures, c.main.ensures, c.new-tasks.ensures) at c.in_ok-push.ensures.set in
    begun _ (c.lawful.ensures c.args.program.now) (c.begun_is_pictured.ensures c.args.program.now) c.args.program.now (g.P.Program.functions c.args.program.now).variables _ c.in-Some.pools c.variables-count.ensures
    _ c.in_ok-variables.ensures _ c.in_ok-handlers.ensures c.in-Some.ensures _ sets _ c.new.ensures _ c.new-2.ensures.items
