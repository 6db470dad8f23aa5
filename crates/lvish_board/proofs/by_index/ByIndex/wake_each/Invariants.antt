use Rattle.lvish_calculus.specs.declared.label.Label.TheVariants.{Act}
use Rattle.lvish_calculus.specs.Program.{machine_of}
use Rattle.lvish_core.specs.Core.{CanTake}
use Rattle.lvish_board.proofs.Sweeping.{IsSweeping}
use Rattle.lvish_board.proofs.by_index.ByIndex.wake_each.Given as goal

abbrev pub invariant-loop-next : goal.invariant-loop-next
invariant-loop-next g l =
    let M = machine_of g.P.Lat.PartialEq.eq g.P.Lat.Event.PartialEq.eq g.P.Lat.Event.Ord.cmp g.P.Lat.Lattice.least g.P.Lat.Lattice.joined g.P.Lat.Lattice.events_of g.P.Lat.Reads.answer_of (g.P.Program.functions l.core.program) in
    IsSweeping (λ p. CanTake M l.core (Act p.task)) l.fn.indices.items l.indices.items l.next l.fn.self l.self l.fn.woken l.woken

abbrev pub decreases-loop-next : goal.decreases-loop-next
decreases-loop-next g l = l.next
