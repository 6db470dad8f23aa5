use Rattle.std.proofs.Common.{◌≡◌, None, length}
use Rattle.lvish_calculus.specs.Program.{machine_of}
use Rattle.lvish_board.specs.Board.{IsBoardSound}
use Rattle.lvish_run.specs.Agenda.{open_in, IsBeside}
use Rattle.lvish_run.specs.Walk.{IsIdle}
use Rattle.lvish_run.proofs.runner.take_first.Given as goal

abbrev pub invariant-loop-asked : goal.invariant-loop-asked
invariant-loop-asked g l =
    let M = machine_of g.P.Lat.PartialEq.eq g.P.Lat.Event.PartialEq.eq g.P.Lat.Event.Ord.cmp g.P.Lat.Lattice.least g.P.Lat.Lattice.joined g.P.Lat.Lattice.events_of g.P.Lat.Reads.answer_of (g.P.Program.functions g.B.BoardBrand.program) in
    record {
      idle : IsIdle l.fn.board l.board;
      running : l.board.over ≡ None;
      sound : IsBoardSound M g.B.BoardBrand.program g.B.BoardBrand.budget l.board;
      beside : IsBeside M l.board None None (open_in g.P.Lat.Event.Ord.cmp l.agenda);
    }

abbrev pub decreases-loop-asked : goal.decreases-loop-asked
decreases-loop-asked g l = length l.agenda.tasks
