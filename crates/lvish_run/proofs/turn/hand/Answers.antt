use Rattle.lvish_calculus.specs.declared.label.Label.TheVariants.{Hand}
use Rattle.lvish_board.specs.Listed.{work_of}
use Rattle.lvish_run.specs.Agenda.{open_in}
use Rattle.lvish_run.proofs.Beside.{beside_after}
use Rattle.lvish_run.proofs.turn.hand.Goals as goal

pub returns-in_ok-open_all-in-Some-clause-agenda : goal.returns-in_ok-open_all-in-Some-clause-agenda
returns-in_ok-open_all-in-Some-clause-agenda g c = λ still.
    let e = c.requires.next.0 in
    let tried = rw c.in-Some.is at c.in_ok-left.ensures in
    let made = tried e c.requires.next.1 in
    beside_after _ g.B.BoardBrand.program g.B.BoardBrand.budget c.args.board.now c.take_hand.new.board (Hand c.args.handler e) c.is_sound.ensures c.is_sound-in-Some.ensures c.requires.running made.entered still
    (c.lawful.ensures g.B.BoardBrand.program) (c.hands_one_event.ensures.open g.B.BoardBrand.program) (c.handed_next.ensures.below_the_end g.B.BoardBrand.program) (c.handed_next.ensures.held g.B.BoardBrand.program)
    g.P.Lat.Event.Ord.cmp (work_of c.in-Some.left) made.listed (open_in g.P.Lat.Event.Ord.cmp c.args.agenda.now) (open_in g.P.Lat.Event.Ord.cmp c.open_all.new.agenda) c.requires.beside c.in_ok-open_all-in-Some.ensures

pub returns-in_ok-open_all-in-Some-clause-handed : goal.returns-in_ok-open_all-in-Some-clause-handed
returns-in_ok-open_all-in-Some-clause-handed g c = λ e next.
    let tried = rw c.in-Some.is at c.in_ok-left.ensures in
    (tried e next).entered
