-- How many tasks haven't ended.
use Rattle.std.specs.Prelude.{◌≡◌, ◌↔◌, ℕ, List, length}
use Rattle.lvish_calculus.specs.Calculus.{State, IsLive}
use Rattle.lvish_names.specs.Names.{Name}
use Rattle.lvish_calculus.specs.Handing.{IsAmong, NoRepeats}

-- n tasks haven't ended: n is the length of a list, without repeats, of exactly their names
pub record HasLive {S E L : Type 0} (c : State S E L) (n : ℕ) : Type 0 where
  pub names : List (Name E)
  pub once : NoRepeats names
  pub just : (t : Name E) → IsAmong t names ↔ IsLive (c.tasks t)
  pub count : length names ≡ n
