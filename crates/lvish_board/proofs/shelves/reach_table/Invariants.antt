use Rattle.std.proofs.Common.{ℕ, ◌+◌, ◌-◌, length}
use Rattle.lvish_calculus.specs.Handing.{IsAmong}
use Rattle.lvish_board.specs.Shelved.{shelf_at}
use Rattle.lvish_board.proofs.shelves.reach_table.Given as goal

abbrev pub invariant-loop-alloc : goal.invariant-loop-alloc
invariant-loop-alloc g l = (v : ℕ) (q : g.row.K.Denot) (x : ℕ) → IsAmong x (shelf_at g.K.PartialEq.eq l.initial.tables.items v q) → IsAmong x (shelf_at g.K.PartialEq.eq l.tables.items v q)

abbrev pub decreases-loop-alloc : goal.decreases-loop-alloc
decreases-loop-alloc g l = l.variable + 1 - length l.tables.items
