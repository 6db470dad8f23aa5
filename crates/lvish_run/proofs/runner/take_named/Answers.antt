use Rattle.std.proofs.Common.{sym, inr, refl}
use Rattle.std.proofs.lemmas.Result.{IfOk-weaker}
use Rattle.lvish_names.proofs.NameLaws.{name_cmp-iff}
use Rattle.lvish_run.proofs.Firsts.{open_task, without_task, still_open}
use Rattle.lvish_run.proofs.Turns.{drawn_can, drawn_act, drawn_hand}
use Rattle.lvish_run.proofs.runner.take_named.Goals as goal

pub unreachable-requires : goal.unreachable-requires
unreachable-requires g c =
    let drawn = rw (c.in-Some-Act.is, c.in-Some-Act.field-0-is) at c.in_ok-name.ensures in
    open_task _ c.args.board.now _ c.is_sound.ensures.blocked c.requires.agenda c.in-Some-Act.name (drawn_can _ _ _ _ _ drawn) (sym c.in_default.ensures.was)

pub act-requires-clause-current : goal.act-requires-clause-current
act-requires-clause-current g c = (c.requires.agenda.current c.in-Some-Act.name c.in-Some.asked (sym c.in-Some.ensures.was)).1

pub act-requires-clause-beside : goal.act-requires-clause-beside
act-requires-clause-beside g c =
    let exact = name_cmp-iff g.P.Lat.Event.Ord.cmp g.met.P.Lat.Event.Plain.identical g.met.P.Lat.Event.Ord.matches_eq g.met.P.Lat.Event.Ord.total in
    without_task _ c.args.board.now _ _ _ c.requires.agenda exact c.in-Some-Act.name c.in-Some.asked (sym c.in-Some.ensures.was) c.in-Some.ensures.without

pub hand-requires-clause-next : goal.hand-requires-clause-next
hand-requires-clause-next g c =
    let drawn = rw (c.in-Some-Hand.is, c.in-Some-Hand.field-0-is) at c.in_ok-name.ensures in
    (c.in-Some-Hand._event, (drawn_can _ _ _ _ _ drawn).1)

pub hand-requires-clause-beside : goal.hand-requires-clause-beside
hand-requires-clause-beside g c = still_open _ c.args.board.now _ c.in-Some-Hand.handler c.requires.agenda

pub returns-in-Some-clause-turn : goal.returns-in-Some-clause-turn
returns-in-Some-clause-turn g c =
    let drawn = rw (c.in-Some-Act.is, c.in-Some-Act.field-0-is) at c.in_ok-name.ensures in
    let own = (c.requires.agenda.current c.in-Some-Act.name c.in-Some.asked (sym c.in-Some.ensures.was)).0 in
    IfOk-weaker c.act.result _ _ (λ made z. drawn_act _ _ c.args.board.now c.act.new.board c.args.pick c.in-Some-Act.name c.in-Some.asked.task drawn own made z) c.act.ensures.acted

pub returns-in-Some-clause-agenda : goal.returns-in-Some-clause-agenda
returns-in-Some-clause-agenda g c = IfOk-weaker c.act.result _ _ (λ made z is. z) c.act.ensures.agenda

pub returns-in-Some-Hand-clause-turn : goal.returns-in-Some-Hand-clause-turn
returns-in-Some-Hand-clause-turn g c =
    let drawn = rw (c.in-Some-Hand.is, c.in-Some-Hand.field-0-is) at c.in_ok-name.ensures in
    IfOk-weaker c.hand.result _ _ (λ made z. drawn_hand _ _ c.args.board.now c.hand.new.board c.args.pick c.in-Some-Hand.handler c.in-Some-Hand._event drawn made (z c.in-Some-Hand._event (drawn_can _ _ _ _ _ drawn).1)) c.hand.ensures.handed

pub returns-in-Some-Hand-clause-agenda : goal.returns-in-Some-Hand-clause-agenda
returns-in-Some-Hand-clause-agenda g c = IfOk-weaker c.hand.result _ _ (λ made z is. z) c.hand.ensures.agenda

pub returns-in-None-clause-turn : goal.returns-in-None-clause-turn
returns-in-None-clause-turn g c = (record { trace = refl; core = refl }, inr (rw c.in-None.is at c.in_ok-name.ensures))
