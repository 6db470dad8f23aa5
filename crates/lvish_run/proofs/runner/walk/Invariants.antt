use Rattle.std.proofs.Common.{◌≡◌, length}
use Rattle.lvish_calculus.specs.Program.{machine_of}
use Rattle.lvish_board.specs.Board.{IsBoardSound}
use Rattle.lvish_run.specs.Agenda.{IsFor}
use Rattle.lvish_run.specs.Walk.{IsWalk}
use Rattle.lvish_run.proofs.runner.walk.Given as goal

abbrev pub invariant-loop-k : goal.invariant-loop-k
invariant-loop-k g l =
    let M = machine_of g.P.Lat.PartialEq.eq g.P.Lat.Event.PartialEq.eq g.P.Lat.Event.Ord.cmp g.P.Lat.Lattice.least g.P.Lat.Lattice.joined g.P.Lat.Lattice.events_of g.P.Lat.Reads.answer_of (g.P.Program.functions g.B.BoardBrand.program) in
    record {
      sound : IsBoardSound M g.B.BoardBrand.program g.B.BoardBrand.budget l.board;
      walk : IsWalk g.P.Lat.Event.Ord.cmp M g.B.BoardBrand.program l.picks l.board.core l.board.trace;
      count : length l.board.trace ≡ l.k;
      agenda : IsFor g.P.Lat.Event.Ord.cmp M l.board l.agenda;
    }
