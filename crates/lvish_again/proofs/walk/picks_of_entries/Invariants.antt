use Rattle.std.proofs.Common.{◌≡◌, length}
use Rattle.lvish_calculus.specs.Program.{machine_of}
use Rattle.lvish_trace.specs.Traced.{labels_of}
use Rattle.lvish_again.specs.Walk.{IsWalkedTo}
use Rattle.lvish_again.proofs.walk.picks_of_entries.Given as goal

abbrev pub invariant-loop-number : goal.invariant-loop-number
invariant-loop-number g l =
    let M = machine_of g.P.Lat.PartialEq.eq g.P.Lat.Event.PartialEq.eq g.P.Lat.Event.Ord.cmp g.P.Lat.Lattice.least g.P.Lat.Lattice.joined g.P.Lat.Lattice.events_of g.P.Lat.Reads.answer_of (g.P.Program.functions l.program) in
    record {
      walk : IsWalkedTo g.P.Lat.Event.Ord.cmp M l.program (labels_of l.entries) l.core l.picks.items;
      count : length l.picks.items ≡ l.number;
    }
