use Rattle.std.proofs.Common.{None, length}
use Rattle.lvish_calculus.specs.Program.{machine_of}
use Rattle.lvish_run.specs.Agenda.{open_in, NoTask, IsBeside}
use Rattle.lvish_run.proofs.runner.first_handler.Given as goal

abbrev pub invariant-loop-handler : goal.invariant-loop-handler
invariant-loop-handler g l =
    let M = machine_of g.P.Lat.PartialEq.eq g.P.Lat.Event.PartialEq.eq g.P.Lat.Event.Ord.cmp g.P.Lat.Lattice.least g.P.Lat.Lattice.joined g.P.Lat.Lattice.events_of g.P.Lat.Reads.answer_of (g.P.Program.functions g.B.BoardBrand.program) in
    record {
      beside : IsBeside M l.board None None (open_in g.P.Lat.Event.Ord.cmp l.agenda);
      no_task : NoTask (open_in g.P.Lat.Event.Ord.cmp l.agenda);
    }

abbrev pub decreases-loop-handler : goal.decreases-loop-handler
decreases-loop-handler g l = length l.agenda.handlers
