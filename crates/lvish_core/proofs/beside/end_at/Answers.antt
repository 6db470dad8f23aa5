use Rattle.std.proofs.Common.{slice_set, ap, arith}
use Rattle.lvish_core.proofs.Reading.{pool_here, pool_within}
use Rattle.lvish_core.proofs.beside.end_at.Goals as goal

pub bounds-handlers-place : goal.bounds-handlers-place
bounds-handlers-place g c = pool_within (rw c.in-Some.is at c.requires)

pub task_ended-requires-clause-pool_is_there : goal.task_ended-requires-clause-pool_is_there
task_ended-requires-clause-pool_is_there g c = (pool_here (rw c.in-Some.is at c.requires) c.index-handlers-place.result).1

pub task_ended-requires-clause-some : goal.task_ended-requires-clause-some
task_ended-requires-clause-some g c = (pool_here (rw c.in-Some.is at c.requires) c.index-handlers-place.result).2

pub offset_bounds-handlers-place : goal.offset_bounds-handlers-place
offset_bounds-handlers-place g c = omega (arith, pool_within (rw c.in-Some.is at c.requires))

pub returns-in-Some : goal.returns-in-Some
returns-in-Some g c = rw c.in-Some.is
    (_, (pool_here (rw c.in-Some.is at c.requires) c.index-handlers-place.result).0, ap (λ x. slice_set c.args.handlers.now c.in-Some.place.variable x) c.task_ended.ensures)
