use Rattle.std.proofs.Common.{arith}
use Rattle.lvish_core.specs.Beside.{one_less_in}
use Rattle.lvish_core.proofs.Goes.{was_live}
use Rattle.lvish_core.proofs.Counting.{can_end_in}
use Rattle.lvish_core.proofs.Acts.{ending, some_runs}
use Rattle.lvish_core.proofs.Written.{counts_written}
use Rattle.lvish_core.proofs.machine.Core.end.Goals as goal

pub end_at-requires : goal.end_at-requires
end_at-requires g c =
    rw (c.deref_mut.ensures.value)
    (can_end_in c.self.invariant (g.met.P.Program.lawful c.self.inside.program.now).known (c.running_counts.ensures.some c.self.inside.program.now) c.args.name.now (was_live (rw (← c.self.view_is) at c.requires.acting)) c.in_ok-place.place (rw (← c.self.view_is) at c.in_ok-place.ensures))

pub overflow_sub-self : goal.overflow_sub-self
overflow_sub-self g c = omega (arith, some_runs (c.lawful.ensures c.self.inside.program.now) c.self.invariant (rw (← c.self.view_is) at c.requires.acting))

pub invariant_of-self : goal.invariant_of-self
invariant_of-self g c =
    let placed = rw (← c.self.view_is) at c.in_ok-place.ensures in
    let counts = counts_written one_less_in c.in_ok-place.place _ _ _ c.deref_mut.ensures.value c.self.inside.handlers.ok.0 c.end_at.ensures in
    rw (c.close.ensures.steps, c.close.ensures.touched, c.ended_in-on.ensures)
    (ending (c.lawful.ensures c.self.inside.program.now) c.self.invariant (g.met.P.Program.lawful c.self.inside.program.now).known (c.plain_kept.ensures c.self.inside.program.now) (c.counts_kept.ensures.plain c.self.inside.program.now) (c.counts_follow.ensures.rest c.self.inside.program.now) placed
    (rw (← c.self.view_is) at c.requires.acting) (rw (← c.self.view_is) at c.requires.room) (c.counts_follow.ensures.end c.self.inside.program.now) (c.close.ensures.tasks c.args.name.now (rw (← c.self.view_is) at c.requires.there)) counts).1

pub returns-clause-acts : goal.returns-clause-acts
returns-clause-acts g c =
    let placed = rw (← c.self.view_is) at c.in_ok-place.ensures in
    let counts = counts_written one_less_in c.in_ok-place.place _ _ _ c.deref_mut.ensures.value c.self.inside.handlers.ok.0 c.end_at.ensures in
    rw (← c.self.view_is, c.nothing.ensures, c.close.ensures.steps, c.close.ensures.touched, c.ended_in-on.ensures)
    (ending (c.lawful.ensures c.self.inside.program.now) c.self.invariant (g.met.P.Program.lawful c.self.inside.program.now).known (c.plain_kept.ensures c.self.inside.program.now) (c.counts_kept.ensures.plain c.self.inside.program.now) (c.counts_follow.ensures.rest c.self.inside.program.now) placed
    (rw (← c.self.view_is) at c.requires.acting) (rw (← c.self.view_is) at c.requires.room) (c.counts_follow.ensures.end c.self.inside.program.now) (c.close.ensures.tasks c.args.name.now (rw (← c.self.view_is) at c.requires.there)) counts).0
