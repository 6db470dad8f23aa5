-- Numbers that only grow.
use Rattle.std.proofs.Common.{◌≡◌, ◌≤◌, ℕ, ℤ, pos, Bool, cond, List, Option, Some, Contains, find, map, option_map, nat_le, lit≤}
use Rattle.std.specs.List.{range_with_len}
use Rattle.lvish_base.specs.declared.limits.TheConstants.{HIGHEST_LEVEL}
use Rattle.lvish_lattice.specs.declared.max_counter.MaxCounter.{MaxCounter}
use Rattle.lvish_lattice.specs.declared.max_counter.Levels.{Levels}
use Rattle.lvish_lattice.specs.declared.max_counter.Levels.TheVariants.{In}
use Rattle.lvish_lattice.specs.Listed.{one_of}

-- the number that a counter holds, as a natural number
abbrev pub level : MaxCounter → ℕ
level c = c.value

pub level_within : (c : MaxCounter) → level c ≤ HIGHEST_LEVEL
level_within c = c.bounded

-- the number that a counter holds
abbrev pub number_of : MaxCounter → ℤ
number_of c = pos (level c)

-- the counter of a number within the limit
abbrev pub counter_of : (n : ℕ) → n ≤ HIGHEST_LEVEL → MaxCounter
counter_of n h = record { value = n; bounded = h }

abbrev pub zero : MaxCounter
zero = counter_of 0 (lit≤ tt)

-- the greater of the two
abbrev pub joined : MaxCounter → MaxCounter → Option MaxCounter
joined a b = Some (cond (nat_le (level a) (level b)) b a)

-- the numbers from 1 up
abbrev pub events_of : MaxCounter → List ℤ
events_of c = map pos (range_with_len 1 (level c))

-- the levels that are waited for
abbrev pub listed : Levels → List MaxCounter
listed (In xs) = xs

-- the members are the listed levels, each of which answers its number
abbrev pub Member : Levels → MaxCounter → ℤ → Type 0
Member r c a = Contains (listed r) c × (number_of c ≡ a)

-- the number of the first of the listed levels that the counter has reached
abbrev pub answer_of : Levels → MaxCounter → Option ℤ
answer_of r c = option_map number_of (find (λ l. nat_le (level l) (level c)) (listed r))

-- a level is its own spot
abbrev pub spot_of : ℤ → ℤ
spot_of n = n

abbrev pub watched : (MaxCounter → MaxCounter → Bool) → Levels → Option ℤ
watched eq r = option_map number_of (one_of eq (listed r))
