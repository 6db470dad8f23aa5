use Rattle.std.proofs.Common.{◌≡◌, ◌≢◌, true, length}
use Rattle.std.specs.Vec.Iter.{into_iter_items, into_iter_len}
use Rattle.lvish_run.specs.declared.leave.Leave.TheVariants.{Stopped}
use Rattle.lvish_run.proofs.crew.worst_of.Given as goal

abbrev pub invariant-loop-handle : goal.invariant-loop-handle
invariant-loop-handle g l = record {
  can : (goal.iterator-loop-handle g).can_next l.handle-iterator;
  finite : (goal.iterator-loop-handle g).is_finite l.handle-iterator;
  long : into_iter_len l.handle-iterator ≡ length (into_iter_items l.handle-iterator);
  patient : g.S.Shift.patient ≡ true → l.worst ≢ Stopped;
}
