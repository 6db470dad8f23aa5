use Rattle.std.proofs.Common.{◌≡◌, [], drop}
use Rattle.std.specs.List.{AllByRecursion}
use Rattle.lvish_calculus.specs.Program.{machine_of}
use Rattle.lvish_picture.specs.Picture.{task_of}
use Rattle.lvish_core.specs.Core.{state}
use Rattle.lvish_core.proofs.Listing.{Listed}
use Rattle.lvish_core.proofs.Listed.{TaskItem}
use Rattle.lvish_core.proofs.machine.Core.is_each_blocked.Given as goal

abbrev pub invariant-loop-stage : goal.invariant-loop-stage
invariant-loop-stage g l =
    let M = machine_of g.P.Lat.PartialEq.eq g.P.Lat.Event.PartialEq.eq g.P.Lat.Event.Ord.cmp g.P.Lat.Lattice.least g.P.Lat.Lattice.joined g.P.Lat.Lattice.events_of g.P.Lat.Reads.answer_of (g.P.Program.functions l.self.program) in
    record {
      each : AllByRecursion (λ x. task_of M.event_same l.self.table.tasks x.0 ≡ x.1) (drop l.stage-index l.self.table.tasks);
      listed : Listed (TaskItem M (state M l.self)) l.self.table.tasks (drop l.stage-index l.self.table.tasks) [] [];
    }
