use Rattle.std.proofs.Common.{Less, Equal, Greater, Some, sym, ap, ◌∙◌, ◌≡◌}
use Rattle.std.proofs.lemmas.Option.{none-some}
use Rattle.std.proofs.lemmas.Result.{IfOk-weaker}
use Rattle.lvish_names.specs.laws.OrderLaws.{name_total}
use Rattle.lvish_names.proofs.NameLaws.{name_cmp-iff}
use Rattle.lvish_board.specs.Stand.{TaskStand}
use Rattle.lvish_run.proofs.FirstTask.{compared, greater_other, stands_before, stands_again, stands_still, opened_alone, opened_other, opened_front, opened_again}
use Rattle.lvish_run.proofs.agenda.Agenda.open_task.Goals as goal

first_is : {E L : Type 0} (p q : TaskStand E L) → Some p ≡ Some q → p.task ≡ q.task
first_is p q e = let same : p ≡ q = cc in ap (λ r. r.task) same

pub invariant_of-self : goal.invariant_of-self
invariant_of-self g c =
    let exact = name_cmp-iff g.P.Lat.Event.Ord.cmp g.met.P.Lat.Event.Plain.identical g.met.P.Lat.Event.Ord.matches_eq g.met.P.Lat.Event.Ord.total in
    let at = compared g.P.Lat.Event.Ord.cmp (name_total g.met.P.Lat.Event.Ord.total) exact c.cmp.result Less c.task.result.now c.task-in-Some.result.now c.args.asked.task c.in-Some.first.task c.cmp.ensures c.task.ensures c.task-in-Some.ensures c.in-Less.is in
    stands_before g.P.Lat.Event.Ord.cmp (name_total g.met.P.Lat.Event.Ord.total) exact c.self.inside.first c.self.inside.others.entries c.self.invariant c.args.asked c.in-Some.first c.in-Some.is c.keep.result c.replace.new.self c.in-Some-replace.second c.keep.new.others.entries (sym c.replace.ensures.value ∙ c.in-Some-replace.is) at c.replace.ensures.after c.keep.ensures.ok c.keep.ensures.err

pub invariant_of-self-in-Equal : goal.invariant_of-self-in-Equal
invariant_of-self-in-Equal g c =
    let exact = name_cmp-iff g.P.Lat.Event.Ord.cmp g.met.P.Lat.Event.Plain.identical g.met.P.Lat.Event.Ord.matches_eq g.met.P.Lat.Event.Ord.total in
    let at = compared g.P.Lat.Event.Ord.cmp (name_total g.met.P.Lat.Event.Ord.total) exact c.cmp.result Equal c.task.result.now c.task-in-Some.result.now c.args.asked.task c.in-Some.first.task c.cmp.ensures c.task.ensures c.task-in-Some.ensures c.in-Equal.is in
    stands_again g.P.Lat.Event.Ord.cmp (name_total g.met.P.Lat.Event.Ord.total) exact c.self.inside.first c.self.inside.others.entries c.self.invariant c.args.asked c.in-Some.first c.in-Some.is ((exact _ _).0 at)

pub invariant_of-self-in-Greater : goal.invariant_of-self-in-Greater
invariant_of-self-in-Greater g c =
    let exact = name_cmp-iff g.P.Lat.Event.Ord.cmp g.met.P.Lat.Event.Plain.identical g.met.P.Lat.Event.Ord.matches_eq g.met.P.Lat.Event.Ord.total in
    let at = compared g.P.Lat.Event.Ord.cmp (name_total g.met.P.Lat.Event.Ord.total) exact c.cmp.result Greater c.task.result.now c.task-in-Some.result.now c.args.asked.task c.in-Some.first.task c.cmp.ensures c.task.ensures c.task-in-Some.ensures c.in-Greater.is in
    stands_still g.P.Lat.Event.Ord.cmp (name_total g.met.P.Lat.Event.Ord.total) exact c.self.inside.first c.self.inside.others.entries c.self.invariant c.args.asked c.in-Some.first c.in-Some.is c.keep-in-Greater.result c.keep-in-Greater.new.others.entries at c.keep-in-Greater.ensures.ok c.keep-in-Greater.ensures.err

pub returns-in-Some-replace : goal.returns-in-Some-replace
returns-in-Some-replace g c =
    let exact = name_cmp-iff g.P.Lat.Event.Ord.cmp g.met.P.Lat.Event.Plain.identical g.met.P.Lat.Event.Ord.matches_eq g.met.P.Lat.Event.Ord.total in
    let at = compared g.P.Lat.Event.Ord.cmp (name_total g.met.P.Lat.Event.Ord.total) exact c.cmp.result Less c.task.result.now c.task-in-Some.result.now c.args.asked.task c.in-Some.first.task c.cmp.ensures c.task.ensures c.task-in-Some.ensures c.in-Less.is in
    IfOk-weaker c.keep.result _ _ (λ _ puts. opened_front g.P.Lat.Event.Ord.cmp (name_total g.met.P.Lat.Event.Ord.total) exact c.args.self.now c.self.inside.first c.self.inside.others.entries c.self.inside.handlers.keys (sym c.self.view_is) c.args.asked c.in-Some-replace.second c.replace.new.self c.keep.new.others.entries (sym c.replace.ensures.value ∙ c.in-Some-replace.is) c.replace.ensures.after puts) c.keep.ensures.ok

pub returns-in-Equal : goal.returns-in-Equal
returns-in-Equal g c =
    let exact = name_cmp-iff g.P.Lat.Event.Ord.cmp g.met.P.Lat.Event.Plain.identical g.met.P.Lat.Event.Ord.matches_eq g.met.P.Lat.Event.Ord.total in
    let at = compared g.P.Lat.Event.Ord.cmp (name_total g.met.P.Lat.Event.Ord.total) exact c.cmp.result Equal c.task.result.now c.task-in-Some.result.now c.args.asked.task c.in-Some.first.task c.cmp.ensures c.task.ensures c.task-in-Some.ensures c.in-Equal.is in
    opened_again g.P.Lat.Event.Ord.cmp (name_total g.met.P.Lat.Event.Ord.total) exact c.args.self.now c.self.inside.first c.self.inside.others.entries c.self.inside.handlers.keys (sym c.self.view_is) c.args.asked c.in-Some.first c.in-Some.is ((exact _ _).0 at)

pub returns-in-Greater : goal.returns-in-Greater
returns-in-Greater g c =
    let exact = name_cmp-iff g.P.Lat.Event.Ord.cmp g.met.P.Lat.Event.Plain.identical g.met.P.Lat.Event.Ord.matches_eq g.met.P.Lat.Event.Ord.total in
    let at = compared g.P.Lat.Event.Ord.cmp (name_total g.met.P.Lat.Event.Ord.total) exact c.cmp.result Greater c.task.result.now c.task-in-Some.result.now c.args.asked.task c.in-Some.first.task c.cmp.ensures c.task.ensures c.task-in-Some.ensures c.in-Greater.is in
    IfOk-weaker c.keep-in-Greater.result _ _ (λ _ puts. opened_other g.P.Lat.Event.Ord.cmp (name_total g.met.P.Lat.Event.Ord.total) exact c.args.self.now c.self.inside.first c.self.inside.others.entries c.self.inside.handlers.keys (sym c.self.view_is) c.args.asked c.keep-in-Greater.new.others.entries (λ q there same. greater_other g.P.Lat.Event.Ord.cmp (name_total g.met.P.Lat.Event.Ord.total) exact _ _ at (sym same ∙ sym (first_is c.in-Some.first q (sym c.in-Some.is ∙ there)))) puts) c.keep-in-Greater.ensures.ok

pub returns-then-is_below : goal.returns-then-is_below
returns-then-is_below g c =
    let exact = name_cmp-iff g.P.Lat.Event.Ord.cmp g.met.P.Lat.Event.Plain.identical g.met.P.Lat.Event.Ord.matches_eq g.met.P.Lat.Event.Ord.total in
    opened_alone g.P.Lat.Event.Ord.cmp (name_total g.met.P.Lat.Event.Ord.total) exact c.args.self.now c.self.inside.first c.self.inside.others.entries c.self.inside.handlers.keys (sym c.self.view_is) c.args.asked c.in-None.is

pub returns-else-is_below : goal.returns-else-is_below
returns-else-is_below g c =
    let exact = name_cmp-iff g.P.Lat.Event.Ord.cmp g.met.P.Lat.Event.Plain.identical g.met.P.Lat.Event.Ord.matches_eq g.met.P.Lat.Event.Ord.total in
    IfOk-weaker c.keep-in-None.result _ _ (λ _ puts. opened_other g.P.Lat.Event.Ord.cmp (name_total g.met.P.Lat.Event.Ord.total) exact c.args.self.now c.self.inside.first c.self.inside.others.entries c.self.inside.handlers.keys (sym c.self.view_is) c.args.asked c.keep-in-None.new.others.entries (λ q there same. none-some q (sym c.in-None.is ∙ there)) puts) c.keep-in-None.ensures.ok
