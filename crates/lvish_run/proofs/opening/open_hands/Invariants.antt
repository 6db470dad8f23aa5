use Rattle.std.proofs.Common.{◌≡◌, [], length}
use Rattle.std.specs.Vec.Iter.{into_iter_items, into_iter_len}
use Rattle.lvish_run.specs.Agenda.{Open, open_in, Opens}
use Rattle.lvish_run.proofs.opening.open_hands.Given as goal

abbrev pub invariant-loop-handler : goal.invariant-loop-handler
invariant-loop-handler g l = record {
  can : (goal.iterator-loop-handler g).can_next l.handler-iterator;
  finite : (goal.iterator-loop-handler g).is_finite l.handler-iterator;
  long : into_iter_len l.handler-iterator ≡ length (into_iter_items l.handler-iterator);
  -- what opens those that are left, opens all
  opens : (c : Open _ _) → Opens [] (into_iter_items l.handler-iterator) (open_in g.P.Lat.Event.Ord.cmp l.agenda) c → Opens [] l.fn.hands.items (open_in g.P.Lat.Event.Ord.cmp l.initial.agenda) c;
}
