-- Maps from keys to amounts whose total has a bound.
use Rattle.std.specs.Prelude.{◌≡◌, ℕ, ℤ, Bool, true, false, cond, List, [], ◌∷◌, Option, Some, None, option_and_then, sum_by, nat_le, max, ◌&&◌, ◌<◌, ◌≤◌, length, refl}
use Rattle.std.proofs.Common.{lit≤, arith}
use Rattle.std.specs.List.Sorted.{IsStrictlySortedBy}
use Rattle.std.specs.Ordering.{int_cmp, int_eq}
use borrow.Author.Tests.{leb-true, eqb-true}
use Rattle.lvish_compound.specs.Vocabulary.{MaxCounter, HIGHEST_TOTAL}
use Rattle.lvish_lattice.specs.Lattice.{IsAtOrBelow}
pub use Rattle.lvish_compound.specs.declared.tally.Tally.{Tally}
use Rattle.lvish_compound.specs.Amounts as amounts
use Rattle.lvish_compound.specs.MapOf as map_of
use Rattle.lvish_compound.specs.MapReads.{holding}
use Rattle.lvish_lattice.specs.MaxCounter.{level, level_within, zero}

-- the type of a function's values
abbrev Codomain : {A B : Type 0} → (A → B) → Type 0
Codomain {A} {B} f = B

-- maps from keys to amounts
abbrev pub Amounts : Type 0
Amounts = Codomain (λ (t : Tally). t.amounts)

-- the amounts of a tally
abbrev pub amounts_of : Tally → Amounts
amounts_of t = t.amounts

-- what is seen of a tally: its keys, in order, with their amounts
abbrev pub entries_of : Tally → List (ℤ × MaxCounter)
entries_of t = map_of.entries_of t.amounts

-- the amount of a key, 0 where it has no entry
abbrev pub amount : Tally → ℤ → MaxCounter
amount t k = map_of.at t.amounts k

-- the sum of the amounts
abbrev pub total : Tally → ℕ
total t = amounts.total_of (entries_of t)

abbrev pub tally_by : (m : Amounts) (t : Bool) → nat_le (amounts.total_of m.entries) HIGHEST_TOTAL ≡ t → Option Tally
tally_by m true h = Some (record { amounts = m; total = amounts.total_of m.entries; counted = refl; bounded = leb-true (amounts.total_of m.entries) HIGHEST_TOTAL h })
tally_by m false h = None

-- the tally of these amounts, where their total is at most 10,000
abbrev pub tally_of : Amounts → Option Tally
tally_of m = tally_by m (nat_le (amounts.total_of m.entries) HIGHEST_TOTAL) refl

-- no entries
abbrev pub empty : Tally
empty = record { amounts = map_of.empty; total = 0; counted = refl; bounded = lit≤ tt }

-- the greater amount at each key, and top where the total is past 10,000
abbrev pub joined : Tally → Tally → Option Tally
joined s t = option_and_then tally_of (map_of.joined s.amounts t.amounts)

-- each key with the numbers from 1 to its amount
abbrev pub events_of : Tally → List (ℤ × ℤ)
events_of t = map_of.map_events_of t.amounts

-- the test of amounts
abbrev pub amount_test : MaxCounter → MaxCounter → Bool
amount_test x y = map_of.part_test (amounts_of empty) x y

pub alone_total : (k : ℤ) (c : MaxCounter) (t : Bool) → amount_test c zero ≡ t → level c ≡ amounts.total_of (cond t [] ((k, c) ∷ []))
alone_total k c true e = eqb-true (level c) 0 e
alone_total k c false e = omega arith

-- the tally of one key and its amount
abbrev pub single : ℤ → MaxCounter → Tally
single k c = record { amounts = holding k c; total = level c; counted = alone_total k c (amount_test c zero) refl; bounded = omega (arith, level_within c) }

-- whether two tallies have the same amounts
abbrev pub alike : Tally → Tally → Bool
alike s t = map_of.alike (λ (p q : ℤ × MaxCounter). int_eq p.0 q.0 && amount_test p.1 q.1) s.amounts t.amounts

-- the greater of the two amounts of a key
abbrev pub greater_level : Tally → Tally → ℤ → ℕ
greater_level s t k = max (level (amount s k)) (level (amount t k))

-- at some keys, each listed once, the greater amounts add up to more than 10,000
abbrev pub IsPastTotal : Tally → Tally → Type 0
IsPastTotal s t = (ks : List ℤ) × IsStrictlySortedBy int_cmp ks × (HIGHEST_TOTAL < sum_by (greater_level s t) ks)

-- there are as many events as the total says
abbrev pub IsTotalOfEvents : (Tally → List (ℤ × ℤ)) → Type 0
IsTotalOfEvents events = (t : Tally) → length (events t) ≡ total t

-- below a tally of at least this total there is one of this total
abbrev pub AreReached : (Tally → Tally → Option Tally) → Type 0
AreReached join = (n : ℕ) (s : Tally) → n ≤ total s → (t : Tally) × IsAtOrBelow join t s × (total t ≡ n)

-- a tally below another has at most its total
abbrev pub AreGrowing : (Tally → Tally → Option Tally) → Type 0
AreGrowing join = (s t : Tally) → IsAtOrBelow join s t → total s ≤ total t
