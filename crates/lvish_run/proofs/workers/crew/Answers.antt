use Rattle.std.proofs.Common.{◌≡◌, Ok, length, slice_index_or, ap, arith}
use Rattle.lvish_run.proofs.Leaving.{left_not_mixed, left_not_stopped}
use Rattle.lvish_run.proofs.workers.crew.Goals as goal

-- each seat's deal has as many deques as there are workers
pub work_together-requires-clause-ours : goal.work_together-requires-clause-ours
work_together-requires-clause-ours g c κs within k d less =
    let all = c.in_ok-seats.ensures.whole in
    let same : length (slice_index_or c.in_ok-seats.seats.items k d).deal ≡ length all.0.0 = ap length (all.0.3 k d less).0 in
    omega (arith, same, all.0.2, all.1, c.requires.all)

pub returns-in-Some-clause-patient : goal.returns-in-Some-clause-patient
returns-in-Some-clause-patient g c = λ patient. left_not_stopped _ _ _ c.fault.ensures c.in-Some.is (λ stopped. c.in_ok-work_together.ensures.patient patient (ap Ok stopped))

pub returns-in-Some-clause-whole : goal.returns-in-Some-clause-whole
returns-in-Some-clause-whole g c = left_not_mixed _ _ _ c.fault.ensures c.in-Some.is
