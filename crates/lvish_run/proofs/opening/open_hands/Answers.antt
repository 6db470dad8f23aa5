use Rattle.std.proofs.Common.{rules, ◌≡◌, ◌∷◌, [], length, sym, ap, subst, ◌∙◌, arith}
use Rattle.std.specs.Vec.Iter.{into_iter_items, into_iter_len}
use Rattle.std.proofs.lemmas.List.{nil_from_length}
use Rattle.lvish_names.proofs.NameLaws.{handler_cmp-iff}
use Rattle.lvish_run.specs.Agenda.{open_in, Opens}
use Rattle.lvish_run.proofs.Agendas.{opens_none, opens_more, opens_handler}
use Rattle.lvish_run.proofs.opening.open_hands.Goals as goal

pub loop-handler-init : goal.loop-handler-init
loop-handler-init g c =
    let it = c.into_iter-handler-iterator.ensures.into_iter_gives.0 in
    let long : into_iter_len c.into_iter-handler-iterator.result ≡ length (into_iter_items c.into_iter-handler-iterator.result) = search rules in
    record {
      can = tt;
      finite = tt;
      long = long;
      opens = λ b opens. subst (λ xs. Opens [] xs (open_in g.P.Lat.Event.Ord.cmp c.args.agenda.now) b) it opens;
    }

pub loop-handler-preserved : goal.loop-handler-preserved
loop-handler-preserved g c =
    let exact = handler_cmp-iff g.P.Lat.Event.Ord.cmp g.met.P.Lat.Event.Plain.identical g.met.P.Lat.Event.Ord.matches_eq g.met.P.Lat.Event.Ord.total in
    let steps : into_iter_items c.loop-handler.handler-iterator ≡ c.in-Some.handler ∷ into_iter_items c.next.new.self = c.in-Some.ensures.steps.0 in
    let gone = c.in-Some.ensures.steps.1 in
    let short = ap length steps in
    let was = c.loop-handler.invariant.long in
    let long : into_iter_len c.next.new.self ≡ length (into_iter_items c.next.new.self) = omega arith in
    record {
      can = tt;
      finite = tt;
      long = long;
      opens = λ b opens. c.loop-handler.invariant.opens b (subst (λ xs. Opens [] xs (open_in g.P.Lat.Event.Ord.cmp c.loop-handler.agenda) b) (sym steps)
          (opens_more [] [] (c.in-Some.handler ∷ []) (into_iter_items c.next.new.self) (open_in g.P.Lat.Event.Ord.cmp c.loop-handler.agenda) (open_in g.P.Lat.Event.Ord.cmp c.open_handler.new.self) b (opens_handler g.P.Lat.Event.Ord.cmp _ _ exact c.in-Some.handler c.in_ok-open_handler.ensures) opens));
    }

pub returns : goal.returns
returns g c =
    let empty : into_iter_items c.loop-handler.handler-iterator ≡ [] = nil_from_length _ (sym c.loop-handler.invariant.long ∙ c.in-None.ensures.steps.0) in
    c.loop-handler.invariant.opens (open_in g.P.Lat.Event.Ord.cmp c.loop-handler.agenda) (subst (λ xs. Opens [] xs (open_in g.P.Lat.Event.Ord.cmp c.loop-handler.agenda) (open_in g.P.Lat.Event.Ord.cmp c.loop-handler.agenda)) (sym empty) (opens_none (open_in g.P.Lat.Event.Ord.cmp c.loop-handler.agenda)))
