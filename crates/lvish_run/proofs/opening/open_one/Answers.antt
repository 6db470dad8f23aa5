use Rattle.std.proofs.Common.{inl, inr, sym, ap}
use Rattle.std.proofs.lemmas.Result.{IfOk-weaker}
use Rattle.lvish_names.proofs.NameLaws.{name_cmp-iff, handler_cmp-iff}
use Rattle.lvish_run.specs.Agenda.{open_in}
use Rattle.lvish_run.proofs.Agendas.{stand_in, adds_task, adds_handler}
use Rattle.lvish_run.proofs.opening.open_one.Goals as goal

pub returns-in-Stretch : goal.returns-in-Stretch
returns-in-Stretch g c =
    let exact = name_cmp-iff g.P.Lat.Event.Ord.cmp g.met.P.Lat.Event.Plain.identical g.met.P.Lat.Event.Ord.matches_eq g.met.P.Lat.Event.Ord.total in
    let is = c.in-Stretch.is in
    IfOk-weaker c.open_ticket.result _ _ (λ _ has. adds_task g.P.Lat.Event.Ord.cmp (open_in g.P.Lat.Event.Ord.cmp c.args.agenda.now) (open_in g.P.Lat.Event.Ord.cmp c.open_ticket.new.agenda) c.args.work exact c.in-Stretch.ticket has (ap stand_in is) (inl (inl (sym is)))) c.open_ticket.ensures

pub returns-in-Act : goal.returns-in-Act
returns-in-Act g c =
    let exact = name_cmp-iff g.P.Lat.Event.Ord.cmp g.met.P.Lat.Event.Plain.identical g.met.P.Lat.Event.Ord.matches_eq g.met.P.Lat.Event.Ord.total in
    let is = c.in-Act.is in
    IfOk-weaker c.open_task.result _ _ (λ _ has. adds_task g.P.Lat.Event.Ord.cmp (open_in g.P.Lat.Event.Ord.cmp c.args.agenda.now) (open_in g.P.Lat.Event.Ord.cmp c.open_task.new.self) c.args.work exact c.in-Act.asked has (ap stand_in is) (inr (inl (sym is)))) c.open_task.ensures

pub returns-in-Hand : goal.returns-in-Hand
returns-in-Hand g c =
    let exact = handler_cmp-iff g.P.Lat.Event.Ord.cmp g.met.P.Lat.Event.Plain.identical g.met.P.Lat.Event.Ord.matches_eq g.met.P.Lat.Event.Ord.total in
    IfOk-weaker c.open_handler.result _ _ (λ _ has. adds_handler g.P.Lat.Event.Ord.cmp (open_in g.P.Lat.Event.Ord.cmp c.args.agenda.now) (open_in g.P.Lat.Event.Ord.cmp c.open_handler.new.self) c.args.work exact c.in-Hand.handler has c.in-Hand.is) c.open_handler.ensures
