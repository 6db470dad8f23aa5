use Rattle.std.proofs.Common.{◌≡◌, Some, take, vec_capacity}
use Rattle.lvish_calculus.specs.Program.{machine_of}
use Rattle.lvish_board.specs.Vocabulary.{Act, PutOn as Put}
use Rattle.lvish_core.specs.Core.{CanTake}
use Rattle.lvish_calculus.specs.Handing.{NoRepeats}
use Rattle.lvish_board.specs.Seated.{AreWithin, stands_of}
use Rattle.lvish_board.specs.Board.{tasks_of}
use Rattle.lvish_board.specs.Waking.{Wakes}
use Rattle.lvish_board.specs.Woken.{MayWake}
use Rattle.lvish_board.proofs.parked.Parked.wake_gets.Given as goal

abbrev pub invariant-loop-entry : goal.invariant-loop-entry
invariant-loop-entry g l =
    let M = (machine_of g.P.Lat.PartialEq.eq g.P.Lat.Event.PartialEq.eq g.P.Lat.Event.Ord.cmp g.P.Lat.Lattice.least g.P.Lat.Lattice.joined g.P.Lat.Lattice.events_of g.P.Lat.Reads.answer_of (g.P.Program.functions l.core.program)) in
    record {
      wakes : Wakes (λ p. CanTake M l.core (Act p.task)) (λ p. MayWake g.P.Lat.Reads.spot_of g.P.Lat.Reads.watched (Some (Put l.variable)) (take l.entry-index l.fresh) ((g.P.Program.functions l.core.program).request p.from)) (stands_of l.fn.self) (stands_of l.self) l.fn.woken.items l.woken.items;
      once : NoRepeats (tasks_of (stands_of l.self));
      within : AreWithin l.self l.fn.self;
      capacity : vec_capacity l.woken ≡ vec_capacity l.fn.woken;
    }
