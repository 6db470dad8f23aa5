use Rattle.std.proofs.Common.{sym, subst}
use Rattle.lvish_names.proofs.NameLaws.{handler_cmp-iff}
use Rattle.lvish_core.specs.Core.{IsNext}
use Rattle.lvish_run.proofs.Firsts.{nothing_open}
use Rattle.lvish_run.proofs.Turns.{first_handler, next_handler}
use Rattle.lvish_run.proofs.runner.first_handler.Goals as goal

pub returns-in-Some-next : goal.returns-in-Some-next
returns-in-Some-next g c =
    let exact = handler_cmp-iff g.P.Lat.Event.Ord.cmp g.met.P.Lat.Event.Plain.identical g.met.P.Lat.Event.Ord.matches_eq g.met.P.Lat.Event.Ord.total in
    first_handler _ _ g.B.BoardBrand.program g.B.BoardBrand.budget c.args.board.now c.is_sound.ensures c.requires.running c.loop-handler.agenda c.pop_handler.new.self c.loop-handler.invariant.beside c.loop-handler.invariant.no_task (c.hands_one_event.ensures.open g.B.BoardBrand.program) (c.hands_one_event.ensures.one g.B.BoardBrand.program) exact c.in-Some.handler c.in-Some.ensures c.in-Some-next._event (subst (λ k. IsNext g.P.Lat.Event.PartialEq.eq k.table c.in-Some.handler c.in-Some-next._event) c.core.ensures.core c.in-Some-next.ensures)

pub loop-handler-preserved : goal.loop-handler-preserved
loop-handler-preserved g c =
    let exact = handler_cmp-iff g.P.Lat.Event.Ord.cmp g.met.P.Lat.Event.Plain.identical g.met.P.Lat.Event.Ord.matches_eq g.met.P.Lat.Event.Ord.total in
    let z = next_handler _ _ g.B.BoardBrand.program g.B.BoardBrand.budget c.args.board.now c.is_sound.ensures c.requires.running c.loop-handler.agenda c.pop_handler.new.self c.loop-handler.invariant.beside c.loop-handler.invariant.no_task (c.hands_one_event.ensures.open g.B.BoardBrand.program) (c.hands_one_event.ensures.one g.B.BoardBrand.program) exact c.in-Some.handler c.in-Some.ensures (λ e next. c.in_default-next.ensures e (subst (λ k. IsNext g.P.Lat.Event.PartialEq.eq k.table c.in-Some.handler e) (sym c.core.ensures.core) next)) in
    record { beside = z.0; no_task = z.1 }

pub returns : goal.returns
returns g c = nothing_open _ c.args.board.now _ c.is_sound.ensures.blocked c.loop-handler.invariant.beside c.loop-handler.invariant.no_task c.in_default.ensures
