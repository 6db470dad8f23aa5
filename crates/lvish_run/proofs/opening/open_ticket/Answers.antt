use Rattle.std.proofs.Common.{Some, subst}
use Rattle.std.proofs.lemmas.Result.{IfOk-weaker}
use Rattle.lvish_run.specs.Agenda.{open_in, SetsOpenTask}
use Rattle.lvish_run.proofs.opening.open_ticket.Goals as goal

pub returns-in-Ok : goal.returns-in-Ok
returns-in-Ok g c =
    IfOk-weaker c.open_task.result _ _ (λ _ has. subst (λ p. SetsOpenTask g.P.Lat.Event.Ord.cmp (open_in g.P.Lat.Event.Ord.cmp c.args.agenda.now) p.task (Some p) (open_in g.P.Lat.Event.Ord.cmp c.open_task.new.self)) c.in-Ok.ensures.ok has) c.open_task.ensures
