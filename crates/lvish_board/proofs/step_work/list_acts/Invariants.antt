use Rattle.std.proofs.Common.{◌≡◌, ◌+◌, ◌++◌, length, vec_len, vec_capacity}
use Rattle.std.specs.Vec.Iter.{into_iter_items, into_iter_len}
use Rattle.lvish_board.specs.Listed.{acts}
use Rattle.lvish_board.proofs.step_work.list_acts.Given as goal

abbrev pub invariant-loop-asked : goal.invariant-loop-asked
invariant-loop-asked g l = record {
  can : (goal.iterator-loop-asked g).can_next l.asked-iterator;
  finite : (goal.iterator-loop-asked g).is_finite l.asked-iterator;
  long : into_iter_len l.asked-iterator ≡ length (into_iter_items l.asked-iterator);
  len : vec_len l.list + into_iter_len l.asked-iterator ≡ vec_len l.initial.list + vec_len l.fn.woken;
  capacity : vec_capacity l.list ≡ vec_capacity l.initial.list;
  items : l.list.items ++ acts (into_iter_items l.asked-iterator) ≡ l.initial.list.items ++ acts l.fn.woken.items;
}
