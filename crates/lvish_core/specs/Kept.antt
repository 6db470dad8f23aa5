-- What a core keeps.
use Rattle.std.specs.Prelude.{◌≡◌, ◌≤◌, ◌+◌, ℕ, List, length}
use Rattle.lvish_core.specs.Vocabulary.{MOST_PROGRAM_STEPS, Label, HandlerPlace}
use Rattle.lvish_calculus.specs.Machine.{Machine}
use Rattle.lvish_calculus.specs.Calculus.{Task, Live}
use Rattle.lvish_names.specs.Names.{Name, Handler}
use Rattle.lvish_calculus.specs.Live.{HasLive}
use Rattle.lvish_picture.specs.Picture.{Table, IsPictured}
use Rattle.lvish_picture.specs.Counts.{CountsRunning}
use Rattle.lvish_core.specs.Core.{CoreView, IsReached, state}
use Rattle.lvish_core.specs.Places.{IsIndex}

-- no live task has more forks, handlers or puts than n
abbrev pub AreFew : {E L : Type 0} → (Name E → Task L) → ℕ → Type 0
AreFew {E} {L} tasks n = (t : Name E) (l : L) (f a p : ℕ) → tasks t ≡ Live l f a p → (f ≤ n) × (a ≤ n) × (p ≤ n)

-- a core run of no more than n labels leads to what the table stands for
pub record IsStanding {S E R A L : Type 0} (M : Machine S E R A L) (c : Table S E L) (n : ℕ) : Type 0 where
  pub run : List (Label E)
  pub few : length run ≤ n
  pub pictured : IsPictured M c run

-- what every core keeps, with so many variables and running tasks, and its handlers at these places
pub record IsKept {P S E R A L : Type 0} (M : Machine S E R A L) (variables running : ℕ) (places : List (Handler E × HandlerPlace)) (c : CoreView P S E L) : Type 0 where
  pub reached : IsReached M c
  -- also after an error, by the run before it
  pub standing : IsStanding M c.table c.steps
  pub there : length c.table.variables ≡ variables
  pub counted : CountsRunning M c.table
  pub live : HasLive (state M c) running
  pub index : IsIndex M (state M c) places
  pub steps : c.steps ≤ MOST_PROGRAM_STEPS
  pub few : running ≤ c.steps + 1
  pub numbers : AreFew (state M c).tasks c.steps
