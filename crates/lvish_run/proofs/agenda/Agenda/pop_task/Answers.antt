use Rattle.std.proofs.Common.{sym, ◌∙◌}
use Rattle.lvish_names.specs.laws.OrderLaws.{name_total}
use Rattle.lvish_names.proofs.NameLaws.{name_cmp-iff}
use Rattle.lvish_run.proofs.FirstTask.{popped_first, popped_other}
use Rattle.lvish_run.proofs.agenda.Agenda.pop_task.Goals as goal

pub returns-then-is_some : goal.returns-then-is_some
returns-then-is_some g c =
    let exact = name_cmp-iff g.P.Lat.Event.Ord.cmp g.met.P.Lat.Event.Plain.identical g.met.P.Lat.Event.Ord.matches_eq g.met.P.Lat.Event.Ord.total in
    popped_first g.P.Lat.Event.Ord.cmp (name_total g.met.P.Lat.Event.Ord.total) exact c.args.self.now c.self.inside.first c.self.inside.others.entries c.self.inside.handlers.keys (sym c.self.view_is) c.take.result c.take.new.self c.self.invariant (sym c.is_some.ensures ∙ c.if-is_some.true) c.take.ensures.value c.take.ensures.after _

pub returns : goal.returns
returns g c =
    let exact = name_cmp-iff g.P.Lat.Event.Ord.cmp g.met.P.Lat.Event.Plain.identical g.met.P.Lat.Event.Ord.matches_eq g.met.P.Lat.Event.Ord.total in
    rw c.into_asked.ensures
    (popped_other g.P.Lat.Event.Ord.cmp (name_total g.met.P.Lat.Event.Ord.total) exact c.args.self.now c.self.inside.first c.self.inside.others.entries c.self.inside.handlers.keys (sym c.self.view_is) c.in-Some.field-0-0 c.in-Some.asked c.pop_first.new.self.entries (sym c.is_some.ensures ∙ c.if-is_some.false) c.in-Some.ensures.value c.in-Some.ensures.least c.in-Some.ensures.updates.0 c.in-Some.ensures.removal)
