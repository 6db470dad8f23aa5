-- What no state holds, and no read waits for.
use Rattle.std.specs.Prelude.{◌≡◌, ◌≢◌, ◌⊎◌, ℕ, ℤ, pos, ◌<ℤ◌, Contains}
use Rattle.lvish_compound.specs.declared.any.Any.{Any}
use Rattle.lvish_compound.specs.declared.any.Any.TheVariants as any
use Rattle.lvish_compound.specs.declared.kind.Kind.TheVariants as kind
use Rattle.lvish_compound.specs.Vocabulary.{Test, Place, HIGHEST_LEVEL, HIGHEST_TOTAL}
use Rattle.lvish_compound.specs.declared.number_test.Test.TheVariants as test
use Rattle.lvish_compound.specs.declared.place.Place.TheVariants as place

-- a number that no counter holds
abbrev pub IsBeyond : ℤ → Type 0
IsBeyond n = (n <ℤ pos 0) ⊎ (pos HIGHEST_LEVEL <ℤ n)

-- a number that no side has
abbrev pub IsNoSide : ℕ → Type 0
IsNoSide i = (i ≢ 1) × (i ≢ 2)

-- a state that is no part: a map, two sides, or a tally
abbrev pub IsNoPart : Any → Type 0
IsNoPart (any.Part s) = ⊥
IsNoPart (any.Map x) = Unit {0}
IsNoPart (any.Sides z) = Unit {0}
IsNoPart (any.Tally x) = Unit {0}

-- a number that a test mentions
abbrev pub Mentions : Test → ℤ → Type 0
Mentions test.Any n = ⊥
Mentions (test.In xs) n = Contains xs n
Mentions (test.At m) n = m ≡ n

-- a test that mentions a number that no counter holds
abbrev pub IsBeyondCounters : Test → Type 0
IsBeyondCounters t = (n : ℤ) × Mentions t n × IsBeyond n

-- a number that is the total of no tally
abbrev pub IsBeyondTotal : ℤ → Type 0
IsBeyondTotal n = (n <ℤ pos 0) ⊎ (pos HIGHEST_TOTAL <ℤ n)

-- a test that mentions such a number
abbrev pub IsBeyondTotals : Test → Type 0
IsBeyondTotals t = (n : ℤ) × Mentions t n × IsBeyondTotal n

-- A read is refused if a counter, an amount or a side that is a counter is to be compared with a number that no counter holds, or a total with a number that no total can be, or if its side isn't 1 or 2, or is to be a map or a tally.
abbrev pub IsReadRefused : Place → Test → Type 0
IsReadRefused place.Max t = IsBeyondCounters t
IsReadRefused (place.Amount k) t = IsBeyondCounters t
IsReadRefused place.Total t = IsBeyondTotals t
IsReadRefused (place.Side i l) t = IsNoSide i ⊎ (l ≡ kind.Map) ⊎ (l ≡ kind.Tally) ⊎ ((l ≡ kind.Max) × IsBeyondCounters t)
IsReadRefused p t = ⊥
