use Rattle.std.proofs.Common.{rules, ◌≡◌, ◌∷◌, [], length, sym, ap, subst, ◌∙◌, arith}
use Rattle.std.specs.Vec.Iter.{into_iter_items, into_iter_len}
use Rattle.std.proofs.lemmas.List.{nil_from_length}
use Rattle.lvish_names.proofs.NameLaws.{name_cmp-iff}
use Rattle.lvish_run.specs.Agenda.{open_in, Opens}
use Rattle.lvish_run.proofs.Agendas.{opens_none, opens_more, opens_task}
use Rattle.lvish_run.proofs.opening.open_woken.Goals as goal

pub loop-asked-init : goal.loop-asked-init
loop-asked-init g c =
    let it = c.into_iter-asked-iterator.ensures.into_iter_gives.0 in
    let long : into_iter_len c.into_iter-asked-iterator.result ≡ length (into_iter_items c.into_iter-asked-iterator.result) = search rules in
    record {
      can = tt;
      finite = tt;
      long = long;
      opens = λ b opens. subst (λ xs. Opens xs [] (open_in g.P.Lat.Event.Ord.cmp c.args.agenda.now) b) it opens;
    }

pub loop-asked-preserved : goal.loop-asked-preserved
loop-asked-preserved g c =
    let exact = name_cmp-iff g.P.Lat.Event.Ord.cmp g.met.P.Lat.Event.Plain.identical g.met.P.Lat.Event.Ord.matches_eq g.met.P.Lat.Event.Ord.total in
    let steps : into_iter_items c.loop-asked.asked-iterator ≡ c.in-Some.asked ∷ into_iter_items c.next.new.self = c.in-Some.ensures.steps.0 in
    let gone = c.in-Some.ensures.steps.1 in
    let short = ap length steps in
    let was = c.loop-asked.invariant.long in
    let long : into_iter_len c.next.new.self ≡ length (into_iter_items c.next.new.self) = omega arith in
    record {
      can = tt;
      finite = tt;
      long = long;
      opens = λ b opens. c.loop-asked.invariant.opens b (subst (λ xs. Opens xs [] (open_in g.P.Lat.Event.Ord.cmp c.loop-asked.agenda) b) (sym steps)
          (opens_more (c.in-Some.asked ∷ []) (into_iter_items c.next.new.self) [] [] (open_in g.P.Lat.Event.Ord.cmp c.loop-asked.agenda) (open_in g.P.Lat.Event.Ord.cmp c.open_task.new.self) b (opens_task g.P.Lat.Event.Ord.cmp _ _ exact c.in-Some.asked c.in_ok-open_task.ensures) opens));
    }

pub returns : goal.returns
returns g c =
    let empty : into_iter_items c.loop-asked.asked-iterator ≡ [] = nil_from_length _ (sym c.loop-asked.invariant.long ∙ c.in-None.ensures.steps.0) in
    c.loop-asked.invariant.opens (open_in g.P.Lat.Event.Ord.cmp c.loop-asked.agenda) (subst (λ xs. Opens xs [] (open_in g.P.Lat.Event.Ord.cmp c.loop-asked.agenda) (open_in g.P.Lat.Event.Ord.cmp c.loop-asked.agenda)) (sym empty) (opens_none (open_in g.P.Lat.Event.Ord.cmp c.loop-asked.agenda)))
