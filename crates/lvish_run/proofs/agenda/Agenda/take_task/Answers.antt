use Rattle.std.proofs.Common.{◌≡◌, Some, refl, sym, ap, ◌∙◌}
use Rattle.lvish_names.specs.laws.OrderLaws.{name_total}
use Rattle.lvish_names.proofs.NameLaws.{name_cmp-iff}
use Rattle.lvish_board.specs.Stand.{TaskStand}
use Rattle.lvish_run.proofs.FirstTask.{compared, equal_from, other_from, taken_first, taken_other}
use Rattle.lvish_run.proofs.agenda.Agenda.take_task.Goals as goal

first_is : {E L : Type 0} (p q : TaskStand E L) → Some p ≡ Some q → p.task ≡ q.task
first_is p q e = let same : p ≡ q = cc in ap (λ r. r.task) same

pub returns-then-is_eq-clause-was : goal.returns-then-is_eq-clause-was
returns-then-is_eq-clause-was g c =
    let exact = name_cmp-iff g.P.Lat.Event.Ord.cmp g.met.P.Lat.Event.Plain.identical g.met.P.Lat.Event.Ord.matches_eq g.met.P.Lat.Event.Ord.total in
    let at = compared g.P.Lat.Event.Ord.cmp (name_total g.met.P.Lat.Event.Ord.total) exact c.cmp.result c.cmp.result c.task.result.now c.args.name.now c.in-Some.first.task c.args.name.now c.cmp.ensures c.task.ensures refl refl in
    (taken_first g.P.Lat.Event.Ord.cmp (name_total g.met.P.Lat.Event.Ord.total) exact c.args.self.now c.self.inside.first c.self.inside.others.entries c.self.inside.handlers.keys (sym c.self.view_is) c.in-Some.first c.args.name.now c.take.result c.take.new.self c.self.invariant c.in-Some.is (equal_from g.P.Lat.Event.Ord.cmp (name_total g.met.P.Lat.Event.Ord.total) exact _ _ c.is_eq.result c.if-is_eq.true c.cmp.result c.is_eq.ensures at) c.take.ensures.value c.take.ensures.after).0

pub returns-then-is_eq-clause-without : goal.returns-then-is_eq-clause-without
returns-then-is_eq-clause-without g c =
    let exact = name_cmp-iff g.P.Lat.Event.Ord.cmp g.met.P.Lat.Event.Plain.identical g.met.P.Lat.Event.Ord.matches_eq g.met.P.Lat.Event.Ord.total in
    let at = compared g.P.Lat.Event.Ord.cmp (name_total g.met.P.Lat.Event.Ord.total) exact c.cmp.result c.cmp.result c.task.result.now c.args.name.now c.in-Some.first.task c.args.name.now c.cmp.ensures c.task.ensures refl refl in
    (taken_first g.P.Lat.Event.Ord.cmp (name_total g.met.P.Lat.Event.Ord.total) exact c.args.self.now c.self.inside.first c.self.inside.others.entries c.self.inside.handlers.keys (sym c.self.view_is) c.in-Some.first c.args.name.now c.take.result c.take.new.self c.self.invariant c.in-Some.is (equal_from g.P.Lat.Event.Ord.cmp (name_total g.met.P.Lat.Event.Ord.total) exact _ _ c.is_eq.result c.if-is_eq.true c.cmp.result c.is_eq.ensures at) c.take.ensures.value c.take.ensures.after).1

pub returns-else-is_eq-clause-was : goal.returns-else-is_eq-clause-was
returns-else-is_eq-clause-was g c =
    let exact = name_cmp-iff g.P.Lat.Event.Ord.cmp g.met.P.Lat.Event.Plain.identical g.met.P.Lat.Event.Ord.matches_eq g.met.P.Lat.Event.Ord.total in
    let at = compared g.P.Lat.Event.Ord.cmp (name_total g.met.P.Lat.Event.Ord.total) exact c.cmp.result c.cmp.result c.task.result.now c.args.name.now c.in-Some.first.task c.args.name.now c.cmp.ensures c.task.ensures refl refl in
    (taken_other g.P.Lat.Event.Ord.cmp (name_total g.met.P.Lat.Event.Ord.total) exact c.args.self.now c.self.inside.first c.self.inside.others.entries c.self.inside.handlers.keys (sym c.self.view_is) c.args.name.now c.taken.result c.taken.new.others.entries (λ p there same. other_from g.P.Lat.Event.Ord.cmp (name_total g.met.P.Lat.Event.Ord.total) exact _ _ c.is_eq.result c.if-is_eq.false c.cmp.result c.is_eq.ensures at (first_is c.in-Some.first p (sym c.in-Some.is ∙ there) ∙ same)) c.taken.ensures.was c.taken.ensures.without).0

pub returns-else-is_eq-clause-without : goal.returns-else-is_eq-clause-without
returns-else-is_eq-clause-without g c =
    let exact = name_cmp-iff g.P.Lat.Event.Ord.cmp g.met.P.Lat.Event.Plain.identical g.met.P.Lat.Event.Ord.matches_eq g.met.P.Lat.Event.Ord.total in
    let at = compared g.P.Lat.Event.Ord.cmp (name_total g.met.P.Lat.Event.Ord.total) exact c.cmp.result c.cmp.result c.task.result.now c.args.name.now c.in-Some.first.task c.args.name.now c.cmp.ensures c.task.ensures refl refl in
    (taken_other g.P.Lat.Event.Ord.cmp (name_total g.met.P.Lat.Event.Ord.total) exact c.args.self.now c.self.inside.first c.self.inside.others.entries c.self.inside.handlers.keys (sym c.self.view_is) c.args.name.now c.taken.result c.taken.new.others.entries (λ p there same. other_from g.P.Lat.Event.Ord.cmp (name_total g.met.P.Lat.Event.Ord.total) exact _ _ c.is_eq.result c.if-is_eq.false c.cmp.result c.is_eq.ensures at (first_is c.in-Some.first p (sym c.in-Some.is ∙ there) ∙ same)) c.taken.ensures.was c.taken.ensures.without).1
