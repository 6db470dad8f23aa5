use Rattle.std.proofs.Common.{ap, subst, ◌∙◌}
use Rattle.std.specs.Result.{IfOk}
use Rattle.lvish_calculus.specs.Program.{machine_of}
use Rattle.lvish_calculus.specs.declared.label.Label.TheVariants.{Act}
use Rattle.lvish_core.specs.Changes.{IsMoved}
use Rattle.lvish_core.specs.Core.{state}
use Rattle.lvish_board.proofs.asked.Asked.step.Goals as goal

pub step_live-requires-clause-live : goal.step_live-requires-clause-live
step_live-requires-clause-live g c =
    (c.self.inside.ticket.from, rw c.task.ensures (rw (← c.self.view_is) at c.requires.live))

pub returns-clause-moved : goal.returns-clause-moved
returns-clause-moved g c =
    let M = machine_of g.P.Lat.PartialEq.eq g.P.Lat.Event.PartialEq.eq g.P.Lat.Event.Ord.cmp g.P.Lat.Lattice.least g.P.Lat.Lattice.joined g.P.Lat.Lattice.events_of g.P.Lat.Reads.answer_of (g.P.Program.functions c.args.core.now.program) in
    subst (λ t. IfOk c.step_live.result (λ s. IsMoved M (state M c.args.core.now) (Act t) s.1)) (c.task.ensures ∙ ap (λ a. a.task) c.self.view_is) c.step_live.ensures.moved
