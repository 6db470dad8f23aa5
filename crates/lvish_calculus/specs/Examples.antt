-- Small programs over sets of numbers, their runs, and what these lead to.
use Rattle.std.specs.Prelude.{◌≡◌, ℕ, zero, suc, Bool, true, false, not, ◌&&◌, ◌||◌, List, [], ◌∷◌, ◌++◌, Option, Some, None, nat_eq, if◌then◌else◌}
use Rattle.std.specs.Ordering.{nat_cmp}
use Rattle.lvish_calculus.specs.Machine.{Machine, Request, Put, Fork, Add, Freeze, End, Reply, Content, Frozen}
use Rattle.lvish_calculus.specs.Program.{Functions, machine_of}
use Rattle.lvish_calculus.specs.Calculus.{Label, Act, Hand, State, Configuration, Running, Error, start, IsRun, IsEnd}
use Rattle.lvish_names.specs.Names.{Name, main, forked, handed, Handler}
use Rattle.lvish_calculus.specs.Handing.{HandsWell}
use Rattle.lvish_calculus.specs.Live.{HasLive}
use Rattle.lvish_calculus.specs.LeastModel.{IsClosed, frozen_contents}
use Rattle.lvish_calculus.specs.Independence.{AreDisjoint}

-- a set of some of the numbers 0, 1 and 3
pub record Set : Type 0 where
  pub has_zero : Bool
  pub has_one : Bool
  pub has_three : Bool

-- the set of this number alone
abbrev pub set_of_one : ℕ → Set
set_of_one n = record { has_zero = nat_eq n 0; has_one = nat_eq n 1; has_three = nat_eq n 3 }

-- the numbers of both
abbrev pub union : Set → Set → Set
union a b = record { has_zero = a.has_zero || b.has_zero; has_one = a.has_one || b.has_one; has_three = a.has_three || b.has_three }

-- whether two tests have one outcome
abbrev pub agree : Bool → Bool → Bool
agree true b = b
agree false b = not b

-- whether two sets have the same numbers
abbrev pub same : Set → Set → Bool
same a b = agree a.has_zero b.has_zero && (agree a.has_one b.has_one && agree a.has_three b.has_three)

-- the number, if it is there
abbrev pub if_has : Bool → ℕ → List ℕ
if_has true n = n ∷ []
if_has false n = []

-- the numbers of the set, ascending
abbrev pub numbers : Set → List ℕ
numbers s = if_has s.has_zero 0 ++ (if_has s.has_one 1 ++ if_has s.has_three 3)

-- a program over sets; no join is top, and no read has an answer
abbrev pub over_sets : {L : Type 0} → Functions Set ℕ ℕ ℕ L → Machine Set ℕ ℕ ℕ L
over_sets f = machine_of same nat_eq nat_cmp (record { has_zero = false; has_one = false; has_three = false }) (λ a b. Some (union a b)) numbers (λ r s. None) f

-- what the first n variables hold, and whether they are frozen
abbrev pub shown : {L : Type 0} → State Set ℕ L → ℕ → List (List ℕ × Bool)
shown c zero = []
shown c (suc n) = shown c n ++ (numbers (c.content n), c.frozen n) ∷ []

-- the run leads from the start to this configuration
abbrev pub LeadsTo : {L : Type 0} → Functions Set ℕ ℕ ℕ L → List (Label ℕ) → Configuration Set ℕ L → Type 0
LeadsTo f run d = IsRun (over_sets f) (Running (start (over_sets f))) run d

-- the run ends without an error, all tasks have ended, and the variables are these
pub record EndsAs {L : Type 0} (f : Functions Set ℕ ℕ ℕ L) (run : List (Label ℕ)) (variables : List (List ℕ × Bool)) : Type 0 where
  pub last : State Set ℕ L
  pub reached : LeadsTo f run (Running last)
  pub ended : IsEnd (over_sets f) last
  pub none_left : HasLive last 0
  pub are : shown last f.variables ≡ variables

-- after the run, the steps of two tasks have disjoint footprints
pub record AreDisjointAfter {L : Type 0} (f : Functions Set ℕ ℕ ℕ L) (run : List (Label ℕ)) (t u : Name ℕ) : Type 0 where
  pub there : State Set ℕ L
  pub reached : LeadsTo f run (Running there)
  pub disjoint : AreDisjoint (over_sets f) there (Act t) (Act u)

-- the run leads to a configuration, and up to it hands well
pub record RunHandsWell {L : Type 0} (f : Functions Set ℕ ℕ ℕ L) (run : List (Label ℕ)) : Type 0 where
  pub last : State Set ℕ L
  pub reached : LeadsTo f run (Running last)
  pub well : HandsWell (over_sets f) run last

-- these contents are closed with what the run froze
pub record IsClosedAfter {L : Type 0} (f : Functions Set ℕ ℕ ℕ L) (run : List (Label ℕ)) (contents : ℕ → Set) : Type 0 where
  pub there : State Set ℕ L
  pub reached : LeadsTo f run (Running there)
  pub closed : IsClosed (over_sets f) contents (frozen_contents (over_sets f) there)

-- the run leads to closed contents
pub record EndsClosed {L : Type 0} (f : Functions Set ℕ ℕ ℕ L) (run : List (Label ℕ)) : Type 0 where
  pub last : State Set ℕ L
  pub reached : LeadsTo f run (Running last)
  pub closed : IsClosed (over_sets f) last.content (frozen_contents (over_sets f) last)

-- Crossing: main forks u and t. u freezes v, and puts 0 into w where v is empty;
-- t freezes w, and puts 0 into v where w is empty. v is 0 and w is 1.
pub data CrossingAt : Type 0 where
  forking_u forking_t main_done u_freezing u_putting u_done t_freezing t_putting t_done : CrossingAt

-- what each local state asks for
abbrev pub crossing_asks : CrossingAt → Request Set ℕ CrossingAt
crossing_asks forking_u = Fork u_freezing
crossing_asks forking_t = Fork t_freezing
crossing_asks u_freezing = Freeze 0 []
crossing_asks u_putting = Put 1 (set_of_one 0)
crossing_asks t_freezing = Freeze 1 []
crossing_asks t_putting = Put 0 (set_of_one 0)
crossing_asks _ = End

-- what follows each reply
abbrev pub crossing_goes : CrossingAt → Reply Set ℕ → CrossingAt
crossing_goes forking_u r = forking_t
crossing_goes forking_t r = main_done
crossing_goes u_freezing (Content s) = if s.has_zero then u_done else u_putting
crossing_goes u_putting r = u_done
crossing_goes t_freezing (Content s) = if s.has_zero then t_done else t_putting
crossing_goes t_putting r = t_done
crossing_goes l r = l

-- the program of two tasks that cross
abbrev pub crossing : Functions Set ℕ ℕ ℕ CrossingAt
crossing = record { variables = 2; pool_variable = λ p. None; start = forking_u; start_handler = λ p e. forking_u; request = crossing_asks; at = λ l. l; resume = crossing_goes }

-- main's first fork
abbrev pub u : Name ℕ
u = forked main 1

-- main's second fork
abbrev pub t : Name ℕ
t = forked main 2

-- u freezes v and puts into w, and then t freezes w
abbrev pub u_first : List (Label ℕ)
u_first = Act main ∷ Act main ∷ Act main ∷ Act u ∷ Act u ∷ Act u ∷ Act t ∷ Act t ∷ []

-- t freezes w and puts into v, and then u freezes v
abbrev pub t_first : List (Label ℕ)
t_first = Act main ∷ Act main ∷ Act main ∷ Act t ∷ Act t ∷ Act t ∷ Act u ∷ Act u ∷ []

-- main has forked both, and has ended
abbrev pub until_both : List (Label ℕ)
until_both = Act main ∷ Act main ∷ Act main ∷ []

-- both freeze, and then u puts into w
abbrev pub both_freeze : List (Label ℕ)
both_freeze = Act main ∷ Act main ∷ Act main ∷ Act u ∷ Act t ∷ Act u ∷ []

-- v, and then w
abbrev pub v_then_w : List ℕ
v_then_w = 0 ∷ 1 ∷ []

-- w, and then v
abbrev pub w_then_v : List ℕ
w_then_v = 1 ∷ 0 ∷ []

-- v is empty, and w has 0
abbrev pub u_first_end : List (List ℕ × Bool)
u_first_end = ([], true) ∷ (0 ∷ [], true) ∷ []

-- v has 0, and w is empty
abbrev pub t_first_end : List (List ℕ × Bool)
t_first_end = (0 ∷ [], true) ∷ ([], true) ∷ []

-- u puts into w, which is frozen
abbrev pub both_freeze_error : Configuration Set ℕ CrossingAt
both_freeze_error = Error Frozen (Some 1) u

-- A late put: main forks a writer, which puts 1, and freezes the variable.
pub data LateAt : Type 0 where
  forking freezing main_done putting writer_done : LateAt

-- what each local state asks for
abbrev pub late_asks : LateAt → Request Set ℕ LateAt
late_asks forking = Fork putting
late_asks freezing = Freeze 0 []
late_asks putting = Put 0 (set_of_one 1)
late_asks _ = End

-- what follows each reply
abbrev pub late_goes : LateAt → Reply Set ℕ → LateAt
late_goes forking r = freezing
late_goes freezing r = main_done
late_goes putting r = writer_done
late_goes l r = l

-- the program with a late put
abbrev pub late : Functions Set ℕ ℕ ℕ LateAt
late = record { variables = 1; pool_variable = λ p. None; start = forking; start_handler = λ p e. forking; request = late_asks; at = λ l. l; resume = late_goes }

-- main's fork
abbrev pub writer : Name ℕ
writer = forked main 1

-- main has frozen the variable, which is empty
abbrev pub until_frozen : List (Label ℕ)
until_frozen = Act main ∷ Act main ∷ []

-- 1 is everywhere
abbrev pub one_there : ℕ → Set
one_there v = set_of_one 1

-- main freezes and ends, and then the writer puts 1
abbrev pub freeze_first : List (Label ℕ)
freeze_first = Act main ∷ Act main ∷ Act main ∷ Act writer ∷ []

-- the writer puts 1, and then main freezes
abbrev pub put_first : List (Label ℕ)
put_first = Act main ∷ Act writer ∷ Act main ∷ Act main ∷ Act writer ∷ []

-- the writer's put is the error
abbrev pub freeze_first_error : Configuration Set ℕ LateAt
freeze_first_error = Error Frozen (Some 0) writer

-- the variable has 1, and is frozen
abbrev pub put_first_end : List (List ℕ × Bool)
put_first_end = (1 ∷ [], true) ∷ []

-- Handing: main adds a handler, puts 3 and then 1 into s, and freezes s after the handler's tasks,
-- which copy each number into out. s is 0 and out is 1.
pub data HandingAt : Type 0 where
  adding putting_three putting_one freezing done : HandingAt
  copying : ℕ → HandingAt

-- what each local state asks for
abbrev pub handing_asks : HandingAt → Request Set ℕ HandingAt
handing_asks adding = Add 0 0
handing_asks putting_three = Put 0 (set_of_one 3)
handing_asks putting_one = Put 0 (set_of_one 1)
handing_asks freezing = Freeze 0 (0 ∷ [])
handing_asks (copying n) = Put 1 (set_of_one n)
handing_asks done = End

-- what follows each reply
abbrev pub handing_goes : HandingAt → Reply Set ℕ → HandingAt
handing_goes adding r = putting_three
handing_goes putting_three r = putting_one
handing_goes putting_one r = freezing
handing_goes _ r = done

-- pool 0 is of s
abbrev pub handing_pool : ℕ → Option ℕ
handing_pool zero = Some 0
handing_pool (suc p) = None

-- the program with a handler that copies
abbrev pub handing : Functions Set ℕ ℕ ℕ HandingAt
handing = record { variables = 2; pool_variable = handing_pool; start = adding; start_handler = λ p e. copying e; request = handing_asks; at = λ l. l; resume = handing_goes }

-- main's handler
abbrev pub copier : Handler ℕ
copier = record { adder = main; number = 1 }

-- main has added the handler
abbrev pub until_added : List (Label ℕ)
until_added = Act main ∷ []

-- and has put 3
abbrev pub until_three_put : List (Label ℕ)
until_three_put = Act main ∷ Act main ∷ []

-- labels that hand 1 twice
abbrev pub one_twice : List (Label ℕ)
one_twice = Hand copier 1 ∷ Hand copier 1 ∷ []

-- the handler is handed 3, then 1, as main put them
abbrev pub in_put_order : List (Label ℕ)
in_put_order = Act main ∷ Act main ∷ Act main ∷ Hand copier 3 ∷ Act (handed main 1 3) ∷ Act (handed main 1 3) ∷ Hand copier 1 ∷ Act (handed main 1 1) ∷ Act (handed main 1 1) ∷ Act main ∷ Act main ∷ []

-- the handler is handed 1, then 3
abbrev pub one_first : List (Label ℕ)
one_first = Act main ∷ Act main ∷ Act main ∷ Hand copier 1 ∷ Act (handed main 1 1) ∷ Act (handed main 1 1) ∷ Hand copier 3 ∷ Act (handed main 1 3) ∷ Act (handed main 1 3) ∷ Act main ∷ Act main ∷ []

-- both variables have 1 and 3, and s is frozen
abbrev pub handing_end : List (List ℕ × Bool)
handing_end = (1 ∷ 3 ∷ [], true) ∷ (1 ∷ 3 ∷ [], false) ∷ []

-- 3, and then 1
abbrev pub three_then_one : List ℕ
three_then_one = 3 ∷ 1 ∷ []

-- 1, and then 3
abbrev pub one_then_three : List ℕ
one_then_three = 1 ∷ 3 ∷ []
