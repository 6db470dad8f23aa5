-- A task at a local state.
use Rattle.lvish_names.specs.Names.{Name}

-- a task and the local state in which it stood
pub record TaskStand (E L : Type 0) : Type 0 where
  pub task : Name E
  pub from : L
