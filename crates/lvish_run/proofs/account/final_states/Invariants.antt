use Rattle.std.proofs.Common.{◌≡◌, ◌++◌, length, map}
use Rattle.std.specs.Vec.Iter.{into_iter_items, into_iter_len}
use Rattle.lvish_run.specs.Walk.{final_state}
use Rattle.lvish_run.proofs.account.final_states.Given as goal

abbrev pub invariant-loop-variable : goal.invariant-loop-variable
invariant-loop-variable g l = record {
  can : (goal.iterator-loop-variable g).can_next l.variable-iterator;
  finite : (goal.iterator-loop-variable g).is_finite l.variable-iterator;
  long : into_iter_len l.variable-iterator ≡ length (into_iter_items l.variable-iterator);
  items : l.states.items ++ map final_state (into_iter_items l.variable-iterator) ≡ map final_state l.fn.variables.items;
}
