-- Small programs, and the places in their runs where a task is blocked.
use Rattle.std.specs.Prelude.{◌≡◌, ℕ, zero, suc, Bool, true, List, [], ◌∷◌, ◌++◌, Option, Some, None, max, false, nat_eq, nat_le, length, if◌then◌else◌}
use Rattle.std.specs.Ordering.{nat_cmp}
use Rattle.lvish_calculus.specs.Machine.{Machine, Request, Put, Get, Fork, Add, Freeze, End, Reply, Answer}
use Rattle.lvish_calculus.specs.Program.{Functions, machine_of}
use Rattle.lvish_calculus.specs.Calculus.{Label, Act, Hand, State, IsLive, IsEnabled, IsEnd}
use Rattle.lvish_names.specs.Names.{Name, main, forked, handed, Handler}
use Rattle.lvish_calculus.specs.Laws.{Reaches}
use Rattle.lvish_calculus.specs.Live.{HasLive}
use Rattle.lvish_calculus.specs.Examples.{Set, set_of_one, copier}

-- after the run the task hasn't ended, and isn't enabled
pub record IsBlockedAfter {S E R A L : Type 0} (M : Machine S E R A L) (run : List (Label E)) (t : Name E) : Type 0 where
  pub there : State S E L
  pub reached : Reaches M run there
  pub live : IsLive (there.tasks t)
  pub waits : IsEnabled M there (Act t) → ⊥

-- after the run the task is enabled
pub record IsEnabledAfter {S E R A L : Type 0} (M : Machine S E R A L) (run : List (Label E)) (t : Name E) : Type 0 where
  pub there : State S E L
  pub reached : Reaches M run there
  pub enabled : IsEnabled M there (Act t)

-- what the first n variables hold
abbrev pub contents : {S E L : Type 0} → State S E L → ℕ → List S
contents c zero = []
contents c (suc n) = contents c n ++ c.content n ∷ []

-- the run ends without an error, all tasks have ended, and the first variables hold this
pub record EndsHolding {S E R A L : Type 0} (M : Machine S E R A L) (run : List (Label E)) (held : List S) : Type 0 where
  pub last : State S E L
  pub reached : Reaches M run last
  pub ended : IsEnd M last
  pub none_left : HasLive last 0
  pub holds : contents last (length held) ≡ held

-- the numbers from 1 to n
abbrev pub up_to : ℕ → List ℕ
up_to zero = []
up_to (suc n) = up_to n ++ suc n ∷ []

-- a program over counters; no join is top, and a read waits for a level and answers it
abbrev pub over_counters : {L : Type 0} → Functions ℕ ℕ ℕ ℕ L → Machine ℕ ℕ ℕ ℕ L
over_counters f = machine_of nat_eq nat_eq nat_cmp 0 (λ a b. Some (max a b)) up_to (λ r s. if nat_le r s then Some r else None) f

-- A level: main forks a reader, and raises the counter to 1 and then to 3. The reader waits for 2,
-- and puts the answer into seen. The counter is 0 and seen is 1.
pub data LevelAt : Type 0 where
  forking putting_one putting_three main_done reading reader_done : LevelAt
  telling : ℕ → LevelAt

-- what each local state asks for
abbrev pub level_asks : LevelAt → Request ℕ ℕ LevelAt
level_asks forking = Fork reading
level_asks putting_one = Put 0 1
level_asks putting_three = Put 0 3
level_asks reading = Get 0 2
level_asks (telling n) = Put 1 n
level_asks _ = End

-- what follows each reply
abbrev pub level_goes : LevelAt → Reply ℕ ℕ → LevelAt
level_goes forking r = putting_one
level_goes putting_one r = putting_three
level_goes putting_three r = main_done
level_goes reading (Answer n) = telling n
level_goes (telling n) r = reader_done
level_goes l r = l

-- the program that waits for a level
abbrev pub level_functions : Functions ℕ ℕ ℕ ℕ LevelAt
level_functions = record { variables = 2; pool_variable = λ p. None; start = forking; start_handler = λ p e. forking; request = level_asks; at = λ l. l; resume = level_goes }

-- main's fork, which waits
abbrev pub reader : Name ℕ
reader = forked main 1

-- main has forked the reader
abbrev pub until_fork : List (Label ℕ)
until_fork = Act main ∷ []

-- and raised the counter to 1
abbrev pub until_one : List (Label ℕ)
until_one = Act main ∷ Act main ∷ []

-- and then to 3
abbrev pub until_three : List (Label ℕ)
until_three = Act main ∷ Act main ∷ Act main ∷ []

-- the reader gets its answer, puts it into seen and ends, and then main ends
abbrev pub level_run : List (Label ℕ)
level_run = Act main ∷ Act main ∷ Act main ∷ Act reader ∷ Act reader ∷ Act reader ∷ Act main ∷ []

-- the reader's answer is the level for which it waits
abbrev pub three_and_two : List ℕ
three_and_two = 3 ∷ 2 ∷ []

-- Freezing: in runs of the handing example, main's freeze of s is blocked.

-- the handler was handed 3 alone, and its task has ended
abbrev pub one_unhanded : List (Label ℕ)
one_unhanded = Act main ∷ Act main ∷ Act main ∷ Hand copier 3 ∷ Act (handed main 1 3) ∷ Act (handed main 1 3) ∷ []

-- it was handed both, and its second task hasn't ended
abbrev pub one_running : List (Label ℕ)
one_running = Act main ∷ Act main ∷ Act main ∷ Hand copier 3 ∷ Act (handed main 1 3) ∷ Act (handed main 1 3) ∷ Hand copier 1 ∷ Act (handed main 1 1) ∷ []

-- both tasks have ended
abbrev pub both_copied : List (Label ℕ)
both_copied = Act main ∷ Act main ∷ Act main ∷ Hand copier 3 ∷ Act (handed main 1 3) ∷ Act (handed main 1 3) ∷ Hand copier 1 ∷ Act (handed main 1 1) ∷ Act (handed main 1 1) ∷ []

-- Nesting: main adds a handler to the outer pool, puts 1 into s, and freezes s after the pools that
-- it names. The handler's task adds a handler to the inner pool, whose task puts what it is handed
-- into out. Both pools are of s. s is 0 and out is 1, the outer pool 0 and the inner pool 1.
pub data NestingAt : Type 0 where
  adding putting freezing adding_inner done : NestingAt
  copying : ℕ → NestingAt

-- what each local state asks for
abbrev pub nesting_asks : List ℕ → NestingAt → Request Set ℕ NestingAt
nesting_asks pools adding = Add 0 0
nesting_asks pools putting = Put 0 (set_of_one 1)
nesting_asks pools freezing = Freeze 0 pools
nesting_asks pools adding_inner = Add 1 1
nesting_asks pools (copying n) = Put 1 (set_of_one n)
nesting_asks pools done = End

-- what follows each reply
abbrev pub nesting_goes : NestingAt → Reply Set ℕ → NestingAt
nesting_goes adding r = putting
nesting_goes putting r = freezing
nesting_goes _ r = done

-- both pools are of s
abbrev pub nesting_pool : ℕ → Option ℕ
nesting_pool zero = Some 0
nesting_pool (suc p) = if nat_eq p 0 then Some 0 else None

-- where the procedures of the outer and of the inner handler begin
abbrev pub nesting_handles : ℕ → ℕ → NestingAt
nesting_handles zero e = adding_inner
nesting_handles (suc p) e = copying e

-- the program with a pool within another, of which main names these pools in its freeze
abbrev pub nesting : List ℕ → Functions Set ℕ ℕ ℕ NestingAt
nesting pools = record { variables = 2; pool_variable = nesting_pool; start = adding; start_handler = nesting_handles; request = nesting_asks pools; at = λ l. l; resume = nesting_goes }

-- the outer pool alone
abbrev pub the_outer : List ℕ
the_outer = 0 ∷ []

-- the outer pool and the inner one
abbrev pub both_pools : List ℕ
both_pools = 0 ∷ 1 ∷ []

-- the outer handler's task
abbrev pub outer_task : Name ℕ
outer_task = handed main 1 1

-- the inner handler's task
abbrev pub inner_task : Name ℕ
inner_task = handed outer_task 1 1

-- main's handler
abbrev pub outer : Handler ℕ
outer = record { adder = main; number = 1 }

-- the handler that the outer handler's task adds
abbrev pub inner : Handler ℕ
inner = record { adder = outer_task; number = 1 }

-- both handlers were handed 1, and the inner one's task hasn't ended
abbrev pub inner_running : List (Label ℕ)
inner_running = Act main ∷ Act main ∷ Hand outer 1 ∷ Act outer_task ∷ Act outer_task ∷ Hand inner 1 ∷ []

-- both handlers were handed 1, and their tasks have ended
abbrev pub inner_ended : List (Label ℕ)
inner_ended = Act main ∷ Act main ∷ Hand outer 1 ∷ Act outer_task ∷ Act outer_task ∷ Hand inner 1 ∷ Act inner_task ∷ Act inner_task ∷ []

-- the outer handler's task has added the inner handler, and hasn't ended
abbrev pub outer_running : List (Label ℕ)
outer_running = Act main ∷ Act main ∷ Hand outer 1 ∷ Act outer_task ∷ Hand inner 1 ∷ []

-- s is frozen before the inner handler's task ends
abbrev pub frozen_before : List (Label ℕ)
frozen_before = Act main ∷ Act main ∷ Hand outer 1 ∷ Act outer_task ∷ Act outer_task ∷ Hand inner 1 ∷ Act main ∷ Act main ∷ Act inner_task ∷ Act inner_task ∷ []

-- s is frozen after it
abbrev pub frozen_after : List (Label ℕ)
frozen_after = Act main ∷ Act main ∷ Hand outer 1 ∷ Act outer_task ∷ Act outer_task ∷ Hand inner 1 ∷ Act inner_task ∷ Act inner_task ∷ Act main ∷ Act main ∷ []

-- s = {1}, out = {1}
abbrev pub nesting_end : List (List ℕ × Bool)
nesting_end = (1 ∷ [], true) ∷ (1 ∷ [], false) ∷ []
