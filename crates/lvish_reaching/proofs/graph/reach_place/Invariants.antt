use Rattle.std.proofs.Common.{◌≡◌, ℕ, ◌-◌, suc, length}
use Rattle.lvish_reaching.specs.Graphs.{lists_in, list_at}
use Rattle.lvish_reaching.proofs.graph.reach_place.Given as goal

abbrev pub invariant-loop-alloc : goal.invariant-loop-alloc
invariant-loop-alloc l = (k : ℕ) → list_at (lists_in l.next.items) k ≡ list_at (lists_in l.initial.next.items) k

abbrev pub decreases-loop-alloc : goal.decreases-loop-alloc
decreases-loop-alloc l = suc l.place - length l.next.items
