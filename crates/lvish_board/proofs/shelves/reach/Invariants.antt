use Rattle.std.proofs.Common.{ℕ, ◌+◌, ◌-◌, length}
use Rattle.lvish_calculus.specs.Handing.{IsAmong}
use Rattle.lvish_board.specs.Shelved.{list_at}
use Rattle.lvish_board.proofs.shelves.reach.Given as goal

abbrev pub invariant-loop-alloc : goal.invariant-loop-alloc
invariant-loop-alloc l = (v x : ℕ) → IsAmong x (list_at l.initial.lists.items v) → IsAmong x (list_at l.lists.items v)

abbrev pub decreases-loop-alloc : goal.decreases-loop-alloc
decreases-loop-alloc l = l.variable + 1 - length l.lists.items
