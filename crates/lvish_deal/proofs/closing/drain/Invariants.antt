use Rattle.std.proofs.Common.{◌≡◌, ◌≤◌, ◌++◌, length, vec_capacity}
use Rattle.crossbeam_deque.specs.Handles.{worker_view}
use Rattle.lvish_deal.specs.Rule.{rest_of}
use Rattle.lvish_deal.specs.Closes.{IsWhole}
use Rattle.lvish_deal.proofs.closing.drain.Given as goal

abbrev pub invariant-loop-item : goal.invariant-loop-item
invariant-loop-item g l = record {
  whole : IsWhole l.own;
  room : length (rest_of (worker_view l.initial.own)) ≤ vec_capacity l.left;
  rest : rest_of (worker_view l.initial.own) ≡ l.left.items ++ rest_of (worker_view l.own);
}

abbrev pub decreases-loop-item : goal.decreases-loop-item
decreases-loop-item g l = length (rest_of (worker_view l.own))
