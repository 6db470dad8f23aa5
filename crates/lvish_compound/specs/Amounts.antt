-- Lists of keys with amounts, and their total.
use Rattle.std.specs.Prelude.{ℕ, ℤ, ◌-◌, List, sum_by}
use Rattle.std.specs.Ordering.{int_cmp}
use Rattle.lvish_lattice.specs.MaxCounter.{level, zero, joined}
use Rattle.lvish_lattice.specs.declared.max_counter.MaxCounter.{MaxCounter}
use Rattle.lvish_compound.specs.Keyed.{at}

-- the number of an amount
abbrev pub level_of : ℤ × MaxCounter → ℕ
level_of e = level e.1

-- the sum of the amounts
abbrev pub total_of : List (ℤ × MaxCounter) → ℕ
total_of es = sum_by level_of es

-- what a key has, 0 where it has no entry
abbrev pub level_at : List (ℤ × MaxCounter) → ℤ → ℕ
level_at es q = level (at int_cmp zero joined es q)

-- how much each amount is above what its key has
abbrev pub gains : List (ℤ × MaxCounter) → ℤ × MaxCounter → ℕ
gains es f = level f.1 - level_at es f.0

-- how much the total grows where the entries are joined to others
abbrev pub gain : List (ℤ × MaxCounter) → List (ℤ × MaxCounter) → ℕ
gain es fs = sum_by (gains es) fs
