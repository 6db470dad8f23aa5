use Rattle.std.proofs.Common.{inr, refl}
use Rattle.std.proofs.lemmas.Result.{IfOk-weaker}
use Rattle.lvish_run.proofs.Turns.{first_handed}
use Rattle.lvish_run.proofs.runner.take_first_handing.Goals as goal

pub hand-requires-clause-next : goal.hand-requires-clause-next
hand-requires-clause-next g c = (c.in-Some.ensures.event, c.in-Some.ensures.next)

pub hand-requires-clause-beside : goal.hand-requires-clause-beside
hand-requires-clause-beside g c = c.in-Some.ensures.beside

pub returns-in-Some-clause-turn : goal.returns-in-Some-clause-turn
returns-in-Some-clause-turn g c = IfOk-weaker c.hand.result _ _
    (λ made z. first_handed g.P.Lat.Event.Ord.cmp _ c.args.board.now c.hand.new.board c.in-Some.handler _ c.in-Some.ensures made (z c.in-Some.ensures.event c.in-Some.ensures.next))
    c.hand.ensures.handed

pub returns-in-Some-clause-agenda : goal.returns-in-Some-clause-agenda
returns-in-Some-clause-agenda g c = IfOk-weaker c.hand.result _ _ (λ made z _. z) c.hand.ensures.agenda

pub returns-in-None-clause-turn : goal.returns-in-None-clause-turn
returns-in-None-clause-turn g c = (record { trace = refl; core = refl }, inr c.in-None.ensures)
