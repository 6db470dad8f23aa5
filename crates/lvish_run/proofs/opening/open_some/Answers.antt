use Rattle.std.proofs.Common.{[], sym, subst}
use Rattle.std.proofs.lemmas.Result.{IfOk-weaker}
use Rattle.lvish_names.proofs.NameLaws.{name_cmp-iff}
use Rattle.lvish_board.specs.Listed.{option_list}
use Rattle.lvish_run.specs.Agenda.{open_in, Opens}
use Rattle.lvish_run.proofs.Agendas.{opens_task, opens_none}
use Rattle.lvish_run.proofs.opening.open_some.Goals as goal

pub returns-in-Some : goal.returns-in-Some
returns-in-Some g c =
    let exact = name_cmp-iff g.P.Lat.Event.Ord.cmp g.met.P.Lat.Event.Plain.identical g.met.P.Lat.Event.Ord.matches_eq g.met.P.Lat.Event.Ord.total in
    IfOk-weaker c.open_ticket.result _ _ (λ _ has. subst (λ o. Opens (option_list o) [] (open_in g.P.Lat.Event.Ord.cmp c.args.agenda.now) (open_in g.P.Lat.Event.Ord.cmp c.open_ticket.new.agenda)) (sym c.in-Some.is) (opens_task g.P.Lat.Event.Ord.cmp _ _ exact c.in-Some.ticket has)) c.open_ticket.ensures

pub returns-in-None : goal.returns-in-None
returns-in-None g c =
    subst (λ o. Opens (option_list o) [] (open_in g.P.Lat.Event.Ord.cmp c.args.agenda.now) (open_in g.P.Lat.Event.Ord.cmp c.args.agenda.now)) (sym c.in-None.is) (opens_none (open_in g.P.Lat.Event.Ord.cmp c.args.agenda.now))
