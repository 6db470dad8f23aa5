use Rattle.std.proofs.Common.{inl, inr, is_some, ap}
use Rattle.std.proofs.lemmas.Bool.{both_ways}
use Rattle.lvish_calculus.specs.declared.label.Label.TheVariants.{Act}
use Rattle.lvish_board.specs.Listed.{work_of}
use Rattle.lvish_run.specs.Agenda.{open_in}
use Rattle.lvish_run.proofs.Beside.{was_enabled, beside_after, beside_parked}
use Rattle.lvish_run.proofs.turn.act.Goals as goal

pub returns-in_ok-open_all-in-Some-clause-acted : goal.returns-in_ok-open_all-in-Some-clause-acted
returns-in_ok-open_all-in-Some-clause-acted g c =
    let made = rw c.in-Some.is at c.in_ok-step_work.ensures in
    ((was_enabled _ g.B.BoardBrand.program g.B.BoardBrand.budget c.args.board.now c.take_act.new.board (Act c.args.asked.task) c.is_sound.ensures c.is_sound-in-Some.ensures c.requires.running made.entered, tt), made.entered)

pub returns-in_ok-open_all-in-Some-clause-agenda : goal.returns-in_ok-open_all-in-Some-clause-agenda
returns-in_ok-open_all-in-Some-clause-agenda g c = λ still.
    let made = rw c.in-Some.is at c.in_ok-step_work.ensures in
    beside_after _ g.B.BoardBrand.program g.B.BoardBrand.budget c.args.board.now c.take_act.new.board (Act c.args.asked.task) c.is_sound.ensures c.is_sound-in-Some.ensures c.requires.running made.entered still
    (c.lawful.ensures g.B.BoardBrand.program) (c.hands_one_event.ensures.open g.B.BoardBrand.program) (c.handed_next.ensures.below_the_end g.B.BoardBrand.program) (c.handed_next.ensures.held g.B.BoardBrand.program)
    g.P.Lat.Event.Ord.cmp (work_of c.in-Some.step_work) made.listed (open_in g.P.Lat.Event.Ord.cmp c.args.agenda.now) (open_in g.P.Lat.Event.Ord.cmp c.open_all.new.agenda) c.requires.beside c.in_ok-open_all-in-Some.ensures

pub returns-in-None-clause-agenda : goal.returns-in-None-clause-agenda
returns-in-None-clause-agenda g c = λ still.
    let passed = rw c.in-None.is at c.in_ok-step_work.ensures in
    elim passed.why [
      | inl over ↦ absurd (both_ways _ (ap is_some still) over)
      | inr z ↦ beside_parked _ c.args.board.now c.take_act.new.board c.args.asked (open_in g.P.Lat.Event.Ord.cmp c.args.agenda.now) passed.idle.core z.1 c.requires.beside
    ]
