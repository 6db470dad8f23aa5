-- Which numbers a read waits for, and which of them a cell, a set or a counter answers.
use Rattle.std.specs.Prelude.{◌≡◌, ℤ, pos, negsuc, Bool, true, false, cond, int_le, nat_le, Option, Some, None, Contains, find, is_some, ℕ, refl}
use Rattle.std.specs.List.{list_any, list_all}
use Rattle.std.specs.Ordering.{int_eq}
use Rattle.lvish_compound.specs.Vocabulary.{Flat, Bottom, Value, Test, MaxCounter, HIGHEST_LEVEL, HIGHEST_TOTAL}
use Rattle.lvish_compound.specs.declared.number_test.Test.TheVariants.{Any, In, At}
use borrow.Author.Tests.{leb-true}
use Rattle.lvish_lattice.specs.MaxCounter.{counter_of}

abbrev pub max_by : (n : ℕ) (t : Bool) → nat_le n HIGHEST_LEVEL ≡ t → Option MaxCounter
max_by n true h = Some (counter_of n (leb-true n HIGHEST_LEVEL h))
max_by n false h = None

-- the counter that holds a number, where it is from 0 to 1000
abbrev pub max_of : ℤ → Option MaxCounter
max_of (pos n) = max_by n (nat_le n HIGHEST_LEVEL) refl
max_of (negsuc n) = None

-- whether a test waits for a number
abbrev pub Waits : Test → ℤ → Type 0
Waits Any n = Unit {0}
Waits (In xs) n = Contains xs n
Waits (At m) n = m ≡ n

abbrev pub is_level : ℤ → Bool
is_level n = is_some (max_of n)

-- whether each of the numbers passes
abbrev pub all_pass : (ℤ → Bool) → Test → Bool
all_pass passes Any = true
all_pass passes (In xs) = list_all passes xs
all_pass passes (At n) = passes n

-- whether a counter can hold each of the numbers
abbrev pub are_levels : Test → Bool
are_levels t = all_pass is_level t

-- whether a tally can have this total
abbrev pub is_total : ℤ → Bool
is_total (pos n) = nat_le n HIGHEST_TOTAL
is_total (negsuc n) = false

-- whether a tally can have each of the numbers as its total
abbrev pub are_totals : Test → Bool
are_totals t = all_pass is_total t

-- the value of a cell, where it is waited for
abbrev pub cell_answer : Test → Flat ℤ → Option ℤ
cell_answer t Bottom = None
cell_answer Any (Value n) = Some n
cell_answer (In xs) (Value n) = cond (list_any (int_eq n) xs) (Some n) None
cell_answer (At m) (Value n) = cond (int_eq m n) (Some n) None

-- the first of the listed numbers that passes
abbrev pub first_that : (ℤ → Bool) → Test → Option ℤ
first_that passes Any = None
first_that passes (In xs) = find passes xs
first_that passes (At n) = cond (passes n) (Some n) None

-- whether a counter at this level has reached a number
abbrev pub is_reached : ℤ → ℤ → Bool
is_reached level n = int_le n level

-- whether at most one number is waited for
abbrev pub HasOne : Test → Type 0
HasOne Any = ⊥
HasOne (In xs) = (m n : ℤ) → Contains xs m → Contains xs n → m ≡ n
HasOne (At n) = Unit {0}

-- a number stands for this state; it stands for one alone, or for none (the number of a total stands for many: `HasTotal`)
abbrev pub StandsFor : {S : Type 0} → (ℤ → Option S) → ℤ → S → Type 0
StandsFor state n s = state n ≡ Some s

-- the members are the states for which the numbers of the test stand; each answers its number
abbrev pub ByNumber : {S : Type 0} → Test → (ℤ → S → Type 0) → S → ℤ → Type 0
ByNumber t at s n = Waits t n × at n s
