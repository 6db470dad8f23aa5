use Rattle.lvish_run.specs.Agenda.{open_in}
use Rattle.lvish_run.proofs.Beside.{opened_beside}
use Rattle.lvish_run.proofs.runner.opened.Goals as goal

pub returns-clause-agenda : goal.returns-clause-agenda
returns-clause-agenda g c = λ running.
    opened_beside _ (c.lawful.ensures g.B.BoardBrand.program) g.B.BoardBrand.program g.B.BoardBrand.budget c.in-Ok.board c.is_sound.ensures c.in-Ok.ensures.board (c.hands_one_event.ensures.open g.B.BoardBrand.program)
    (open_in g.P.Lat.Event.Ord.cmp c.new-agenda.result) (open_in g.P.Lat.Event.Ord.cmp c.open_one.new.agenda) c.new-agenda.ensures c.in-Ok.first c.in-Ok.ensures.first c.in_ok-open_one.ensures
