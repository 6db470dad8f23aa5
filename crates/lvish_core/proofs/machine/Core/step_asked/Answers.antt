use Rattle.std.proofs.Common.{IfOk, subst}
use Rattle.lvish_calculus.specs.Program.{machine_of}
use Rattle.lvish_core.specs.Changes.{IsMoved}
use Rattle.lvish_core.specs.Core.{state}
use Rattle.lvish_core.specs.Vocabulary.{Act}
use Rattle.lvish_core.proofs.machine.Core.step_asked.Goals as goal

-- the index is filled, and the core stays as it is
pub step_found-requires-clause-request : goal.step_found-requires-clause-request
step_found-requires-clause-request g c = rw c.index_names.ensures c.requires.request

pub step_found-requires-clause-at : goal.step_found-requires-clause-at
step_found-requires-clause-at g c = rw c.index_names.ensures c.requires.at

pub returns-clause-stepped : goal.returns-clause-stepped
returns-clause-stepped g c = rw c.index_names.ensures at c.step_found.ensures.stepped

pub returns-clause-moved : goal.returns-clause-moved
returns-clause-moved g c =
    let M = λ (p : g.row.P.Denot). machine_of g.P.Lat.PartialEq.eq g.P.Lat.Event.PartialEq.eq g.P.Lat.Event.Ord.cmp g.P.Lat.Lattice.least g.P.Lat.Lattice.joined g.P.Lat.Lattice.events_of g.P.Lat.Reads.answer_of (g.P.Program.functions p) in
    subst (λ s. IfOk c.step_found.result (λ r. IsMoved (M s.program) (state (M s.program) s) (Act c.args.name.now) r.1)) c.index_names.ensures c.step_found.ensures.moved
