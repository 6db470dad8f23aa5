-- A walk over a graph: a handler puts the successors of each number that comes into a set.
use Rattle.std.specs.Prelude.{◌↔◌, ℕ, List, Some, None, Contains, nat_eq, if◌then◌else◌}
use Rattle.lvish_calculus.specs.Machine.{Request, Put, Add, End, Reply}
use Rattle.lvish_calculus.specs.Program.{Functions}
use Rattle.lvish_calculus.specs.Calculus.{State, Label, IsEnd}
use Rattle.lvish_calculus.specs.Laws.{Reaches}
use Rattle.lvish_calculus.specs.Examples.{Set, numbers, over_sets}

-- the local states: main adds a handler, puts the roots and ends; a handler's task visits its number and ends
pub data WalkAt : Type 0 where
  adding_walker putting_roots walked : WalkAt
  visiting : ℕ → WalkAt

module _ (roots : Set) (next : ℕ → Set) where
  -- what each asks for
  abbrev pub walk_asks : WalkAt → Request Set ℕ WalkAt
  walk_asks adding_walker = Add 0 0
  walk_asks putting_roots = Put 0 roots
  walk_asks (visiting n) = Put 0 (next n)
  walk_asks walked = End

  -- what follows each
  abbrev pub walk_goes : WalkAt → Reply Set ℕ → WalkAt
  walk_goes adding_walker r = putting_roots
  walk_goes l r = walked

  -- main adds a handler on variable 0 and puts the roots into it; the handler's tasks put the successors of their numbers
  abbrev pub walk : Functions Set ℕ ℕ ℕ WalkAt
  walk = record { variables = 1; pool_variable = λ p. if nat_eq p 0 then Some 0 else None; start = adding_walker; start_handler = λ p e. visiting e; request = walk_asks; at = λ l. l; resume = walk_goes }

  -- a number is reached from the roots
  pub data IsReached : ℕ → Type 0 where
    is_root : (n : ℕ) → Contains (numbers roots) n → IsReached n
    along_edge : (n m : ℕ) → IsReached n → Contains (numbers (next n)) m → IsReached m

  -- each run that ends has exactly the numbers that are reached
  abbrev pub EndsWithReached : Type 0
  EndsWithReached = (xs : List (Label ℕ)) (c : State Set ℕ WalkAt) → Reaches (over_sets walk) xs c → IsEnd (over_sets walk) c → (n : ℕ) → Contains (numbers (c.content 0)) n ↔ IsReached n

  -- any run, ended or not, has only numbers that are reached
  abbrev pub HasOnlyReached : Type 0
  HasOnlyReached = (xs : List (Label ℕ)) (c : State Set ℕ WalkAt) → Reaches (over_sets walk) xs c → (n : ℕ) → Contains (numbers (c.content 0)) n → IsReached n
