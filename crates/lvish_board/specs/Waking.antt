-- Waking one task after another.
use Rattle.std.specs.Prelude.{◌≡◌, ◌+◌, List, ◌++◌, length}
use Rattle.lvish_calculus.specs.Handing.{NoRepeats}
use Rattle.lvish_board.specs.Stand.{TaskStand}
use Rattle.lvish_board.specs.Board.{tasks_of}
use Rattle.lvish_board.specs.Woken.{IsWoken}

-- the parked tasks that may be woken and can go on were moved behind those woken before
pub record Wakes {E L : Type 0} (Can : TaskStand E L → Type 0) (May : TaskStand E L → Type 0) (old new before after : List (TaskStand E L)) : Type 0 where
  pub more : List (TaskStand E L)
  pub adds : after ≡ before ++ more
  pub woken : IsWoken Can May old new more
  pub count : length after + length new ≡ length before + length old
  pub once : NoRepeats (tasks_of (before ++ old)) → NoRepeats (tasks_of (after ++ new))
