use Rattle.std.proofs.Common.{◌≡◌, ◌≤◌, ◌+◌, ◌++◌, length, vec_len, vec_capacity}
use Rattle.std.specs.Vec.Iter.{into_iter_items, into_iter_len}
use Rattle.lvish_board.specs.Listed.{handings}
use Rattle.lvish_board.proofs.step_work.list_handings.Given as goal

abbrev pub invariant-loop-handler : goal.invariant-loop-handler
invariant-loop-handler g l = record {
  can : (goal.iterator-loop-handler g).can_next l.handler-iterator;
  finite : (goal.iterator-loop-handler g).is_finite l.handler-iterator;
  long : into_iter_len l.handler-iterator ≡ length (into_iter_items l.handler-iterator);
  room : vec_len l.list + into_iter_len l.handler-iterator ≤ vec_capacity l.list;
  items : l.list.items ++ handings (into_iter_items l.handler-iterator) ≡ l.initial.list.items ++ handings l.fn.hands.items;
}
