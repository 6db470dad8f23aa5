use Rattle.std.proofs.Common.{◌++◌, [], refl, subst}
use Rattle.std.proofs.lemmas.List.{append-nil}
use Rattle.std.proofs.lemmas.Result.{IfOk-weaker}
use Rattle.lvish_board.specs.Listed.{work_of, option_list}
use Rattle.lvish_run.specs.Agenda.{open_in, Opens}
use Rattle.lvish_run.proofs.Agendas.{opens_more, adds_listed}
use Rattle.lvish_run.proofs.opening.open_all.Goals as goal

pub returns : goal.returns
returns g c =
    let w = c.args.step_work in
    let own = option_list w.own in
    let made = option_list w.made in
    let a = open_in g.P.Lat.Event.Ord.cmp c.args.agenda.now in
    let b = open_in g.P.Lat.Event.Ord.cmp c.open_some-2.new.agenda in
    let d = open_in g.P.Lat.Event.Ord.cmp c.open_woken.new.agenda in
    let e = open_in g.P.Lat.Event.Ord.cmp c.open_hands.new.agenda in
    let tickets = opens_more own made [] [] a (open_in g.P.Lat.Event.Ord.cmp c.open_some.new.agenda) b c.in_ok-open_some.ensures c.in_ok-open_some-2.ensures in
    let tasks = opens_more (own ++ made) w.woken.items [] [] a b d tickets c.in_ok-open_woken.ensures in
    IfOk-weaker c.open_hands.result _ _ (λ _ hands. adds_listed (work_of w) (own ++ made) w.woken.items w.hands.items refl a e (subst (λ ps. Opens ps w.hands.items a e) (append-nil _) (opens_more ((own ++ made) ++ w.woken.items) [] [] w.hands.items a d e tasks hands))) c.open_hands.ensures
