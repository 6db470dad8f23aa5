use Rattle.std.proofs.Common.{◌≤◌, ◌+◌, vec_len, vec_capacity}
use Rattle.lvish_calculus.specs.Program.{machine_of}
use Rattle.lvish_board.specs.Listed.{HasNext}
use Rattle.lvish_board.proofs.Those.{IsListing}
use Rattle.lvish_board.proofs.list.list_hands.Given as goal

abbrev pub invariant-loop-handler : goal.invariant-loop-handler
invariant-loop-handler g l =
    let M = machine_of g.P.Lat.PartialEq.eq g.P.Lat.Event.PartialEq.eq g.P.Lat.Event.Ord.cmp g.P.Lat.Lattice.least g.P.Lat.Lattice.joined g.P.Lat.Lattice.events_of g.P.Lat.Reads.answer_of (g.P.Program.functions l.core.program) in
    record {
      room : vec_len l.list + vec_len l.concerned ≤ vec_capacity l.list;
      listing : IsListing (λ h. HasNext M l.core h) l.initial.concerned.items l.concerned.items l.list.items;
    }

abbrev pub decreases-loop-handler : goal.decreases-loop-handler
decreases-loop-handler g l = vec_len l.concerned
