use Rattle.std.proofs.Common.{◌≡◌, [], length}
use Rattle.std.specs.Vec.Iter.{into_iter_items, into_iter_len}
use Rattle.lvish_run.specs.Agenda.{Open, open_in, Opens}
use Rattle.lvish_run.proofs.opening.open_woken.Given as goal

abbrev pub invariant-loop-asked : goal.invariant-loop-asked
invariant-loop-asked g l = record {
  can : (goal.iterator-loop-asked g).can_next l.asked-iterator;
  finite : (goal.iterator-loop-asked g).is_finite l.asked-iterator;
  long : into_iter_len l.asked-iterator ≡ length (into_iter_items l.asked-iterator);
  -- what opens those that are left, opens all
  opens : (c : Open _ _) → Opens (into_iter_items l.asked-iterator) [] (open_in g.P.Lat.Event.Ord.cmp l.agenda) c → Opens l.fn.woken.items [] (open_in g.P.Lat.Event.Ord.cmp l.initial.agenda) c;
}
