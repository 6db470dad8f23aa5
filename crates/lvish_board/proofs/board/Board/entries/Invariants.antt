use Rattle.std.proofs.Common.{◌≡◌, ◌≤◌, length, take, vec_capacity}
use Rattle.lvish_core.specs.Tasks.{task_names}
use Rattle.lvish_trace.specs.Packed.{entries_of}
use Rattle.lvish_board.proofs.board.Board.entries.Given as goal

abbrev pub invariant-loop-noted : goal.invariant-loop-noted
invariant-loop-noted g l = record {
  entries : l.entries.items ≡ entries_of (task_names l.self-inside.core.table.tasks) (take l.noted-index l.noted-items);
  room : length l.noted-items ≤ vec_capacity l.entries;
}
