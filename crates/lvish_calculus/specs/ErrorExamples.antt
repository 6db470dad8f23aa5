-- Small programs whose runs meet an error.
use Rattle.std.specs.Prelude.{ℕ, zero, suc, Bool, true, false, List, [], ◌∷◌, Option, Some, None, nat_eq, if◌then◌else◌}
use Rattle.std.specs.Ordering.{nat_cmp}
use Rattle.lvish_calculus.specs.Machine.{Machine, ErrorKind, Request, Put, Fork, Add, Freeze, End, Reply}
use Rattle.lvish_calculus.specs.Program.{Functions, machine_of}
use Rattle.lvish_calculus.specs.Calculus.{Label, Act, State, Running, Error, start, IsRun, IsDoomed}
use Rattle.lvish_names.specs.Names.{Name, main, forked}
use Rattle.lvish_calculus.specs.Laws.{Reaches}
use Rattle.lvish_calculus.specs.Examples.{Set}

-- the run leads to this error
abbrev pub MeetsError : {S E R A L : Type 0} → Machine S E R A L → List (Label E) → ErrorKind → Option ℕ → Name E → Type 0
MeetsError M run kind v t = IsRun M (Running (start M)) run (Error kind v t)

-- after the run some task is at a step that is an error
pub record IsDoomedAfter {S E R A L : Type 0} (M : Machine S E R A L) (run : List (Label E)) : Type 0 where
  pub there : State S E L
  pub reached : Reaches M run there
  pub doomed : IsDoomed M there

-- after the run no task is at a step that is an error
pub record IsUndoomedAfter {S E R A L : Type 0} (M : Machine S E R A L) (run : List (Label E)) : Type 0 where
  pub there : State S E L
  pub reached : Reaches M run there
  pub undoomed : IsDoomed M there → ⊥

-- a cell that is empty, or holds one number
pub data ExampleCell : Type 0 where
  empty : ExampleCell
  holding : ℕ → ExampleCell

-- two different numbers join to top
abbrev pub joined_cell : ExampleCell → ExampleCell → Option ExampleCell
joined_cell empty b = Some b
joined_cell (holding n) empty = Some (holding n)
joined_cell (holding n) (holding m) = if nat_eq n m then Some (holding n) else None

-- whether two cells are equal
abbrev pub same_cell : ExampleCell → ExampleCell → Bool
same_cell empty empty = true
same_cell (holding n) (holding m) = nat_eq n m
same_cell _ _ = false

-- the number that a cell holds
abbrev pub held_numbers : ExampleCell → List ℕ
held_numbers empty = []
held_numbers (holding n) = n ∷ []

-- a program over cells; no read has an answer
abbrev pub over_cells : {L : Type 0} → Functions ExampleCell ℕ ℕ ℕ L → Machine ExampleCell ℕ ℕ ℕ L
over_cells f = machine_of same_cell nat_eq nat_cmp empty joined_cell held_numbers (λ r s. None) f

-- Two numbers: main forks a writer, which puts 1 into the cell, and puts 2 into it.
pub data CellAt : Type 0 where
  forking putting_one putting_two done : CellAt

-- what each local state asks for
abbrev pub cell_asks : CellAt → Request ExampleCell ℕ CellAt
cell_asks forking = Fork putting_one
cell_asks putting_one = Put 0 (holding 1)
cell_asks putting_two = Put 0 (holding 2)
cell_asks done = End

-- what follows each reply
abbrev pub cell_goes : CellAt → Reply ExampleCell ℕ → CellAt
cell_goes forking r = putting_two
cell_goes _ r = done

-- the program that puts two numbers into a cell
abbrev pub two_numbers : Functions ExampleCell ℕ ℕ ℕ CellAt
two_numbers = record { variables = 1; pool_variable = λ p. None; start = forking; start_handler = λ p e. forking; request = cell_asks; at = λ l. l; resume = cell_goes }

-- main's fork, which puts 1
abbrev pub one_writer : Name ℕ
one_writer = forked main 1

-- main has forked, and put 2
abbrev pub until_two : List (Label ℕ)
until_two = Act main ∷ Act main ∷ []

-- main puts 2, and then the writer 1
abbrev pub two_first : List (Label ℕ)
two_first = Act main ∷ Act main ∷ Act one_writer ∷ []

-- the writer puts 1, and then main 2
abbrev pub one_first : List (Label ℕ)
one_first = Act main ∷ Act one_writer ∷ Act main ∷ []

-- A late handler: main forks a task, which adds a handler to s, and freezes s.
pub data LateAddAt : Type 0 where
  forking freezing main_done adding adder_done : LateAddAt

-- what each local state asks for
abbrev pub late_add_asks : LateAddAt → Request Set ℕ LateAddAt
late_add_asks forking = Fork adding
late_add_asks freezing = Freeze 0 []
late_add_asks adding = Add 0 0
late_add_asks _ = End

-- what follows each reply
abbrev pub late_add_goes : LateAddAt → Reply Set ℕ → LateAddAt
late_add_goes forking r = freezing
late_add_goes freezing r = main_done
late_add_goes adding r = adder_done
late_add_goes l r = l

-- pool 0 is of s
abbrev pub the_pool : ℕ → Option ℕ
the_pool zero = Some 0
the_pool (suc p) = None

-- the program with a late handler
abbrev pub late_handler : Functions Set ℕ ℕ ℕ LateAddAt
late_handler = record { variables = 1; pool_variable = the_pool; start = forking; start_handler = λ p e. adder_done; request = late_add_asks; at = λ l. l; resume = late_add_goes }

-- main's fork, which adds the handler
abbrev pub adder : Name ℕ
adder = forked main 1

-- main freezes s, and then the adder adds its handler
abbrev pub freeze_first : List (Label ℕ)
freeze_first = Act main ∷ Act main ∷ Act adder ∷ []

-- the adder adds its handler, and then main freezes s
abbrev pub add_first : List (Label ℕ)
add_first = Act main ∷ Act adder ∷ Act main ∷ Act main ∷ Act adder ∷ []

-- s is empty and frozen
abbrev pub add_first_end : List (List ℕ × Bool)
add_first_end = ([], true) ∷ []

-- A chain: each task forks one that does the same.
pub data ChainAt : Type 0 where
  forking done : ChainAt

-- what each local state asks for
abbrev pub chain_asks : ChainAt → Request Set ℕ ChainAt
chain_asks forking = Fork forking
chain_asks done = End

-- the program in which each task forks one
abbrev pub chain : Functions Set ℕ ℕ ℕ ChainAt
chain = record { variables = 0; pool_variable = λ p. None; start = forking; start_handler = λ p e. forking; request = chain_asks; at = λ l. l; resume = λ l r. done }

-- the task whose name has n parts
abbrev pub nested : ℕ → Name ℕ
nested zero = main
nested (suc n) = forked (nested n) 1

-- that many tasks fork, each the child of the one before; the name of the first has k parts
abbrev pub forks_from : ℕ → ℕ → List (Label ℕ)
forks_from k zero = []
forks_from k (suc n) = Act (nested k) ∷ forks_from (suc k) n
