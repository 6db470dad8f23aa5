use Rattle.std.proofs.Common.{◌≡◌, Some, [], drop}
use Rattle.std.specs.List.{AllByRecursion}
use Rattle.lvish_calculus.specs.Program.{machine_of}
use Rattle.lvish_core.specs.Core.{state}
use Rattle.lvish_core.specs.Places.{place_at}
use Rattle.lvish_core.specs.Tasks.{standings, entries_at}
use Rattle.lvish_core.proofs.Listing.{Listed}
use Rattle.lvish_core.proofs.Listed.{TaskItem, HandItem}
use Rattle.lvish_core.proofs.machine.Core.labels.Given as goal

abbrev pub invariant-loop-entry : goal.invariant-loop-entry
invariant-loop-entry g l =
    let M = machine_of g.P.Lat.PartialEq.eq g.P.Lat.Event.PartialEq.eq g.P.Lat.Event.Ord.cmp g.P.Lat.Lattice.least g.P.Lat.Lattice.joined g.P.Lat.Lattice.events_of g.P.Lat.Reads.answer_of (g.P.Program.functions l.self.program) in
    Listed (TaskItem M (state M l.self)) (standings (entries_at l.entry-items)) (standings (entries_at (drop l.entry-index l.entry-items))) [] l.labels.items

abbrev pub invariant-loop-handler : goal.invariant-loop-handler
invariant-loop-handler g l = record {
  each : AllByRecursion (λ x. place_at g.P.Lat.Event.PartialEq.eq l.self-inside.places x.0 ≡ Some x.1) l.handler-iterator;
  listed : Listed (HandItem g.P.Lat.Event.PartialEq.eq l.self.table) l.self-inside.places l.handler-iterator l.initial.labels.items l.labels.items;
}
