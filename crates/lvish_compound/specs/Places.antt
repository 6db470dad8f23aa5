-- Places where a variable is read.
use Rattle.std.specs.Prelude.{ℕ, Bool, true, false, ◌&&◌, ◌||◌, nat_eq}
use Rattle.lvish_compound.specs.Vocabulary.{Kind, Test, Place}
use Rattle.lvish_compound.specs.declared.kind.Kind.TheVariants as kind
use Rattle.lvish_compound.specs.declared.place.Place.TheVariants as place
use Rattle.lvish_compound.specs.Numbers.{are_levels, are_totals, HasOne}

-- whether a kind is one that a side can have, and can hold the numbers
abbrev pub fits_kind : Kind → Test → Bool
fits_kind kind.Cell t = true
fits_kind kind.Set t = true
fits_kind kind.Max t = are_levels t
fits_kind kind.Map t = false
fits_kind kind.Tally t = false

abbrev pub is_side : ℕ → Bool
is_side i = nat_eq i 1 || nat_eq i 2

-- whether there is such a place, and it can hold the numbers
abbrev pub test_fits : Place → Test → Bool
test_fits place.Cell t = fits_kind kind.Cell t
test_fits place.Set t = fits_kind kind.Set t
test_fits place.Max t = fits_kind kind.Max t
test_fits (place.Key k) t = true
test_fits (place.Amount k) t = are_levels t
test_fits place.Total t = are_totals t
test_fits (place.Side i l) t = is_side i && fits_kind l t

-- the kind that is read at a place
abbrev pub kind_read_at : Place → Kind
kind_read_at place.Cell = kind.Cell
kind_read_at place.Set = kind.Set
kind_read_at place.Max = kind.Max
kind_read_at (place.Key k) = kind.Map
kind_read_at (place.Amount k) = kind.Tally
kind_read_at place.Total = kind.Tally
kind_read_at (place.Side i l) = l

-- whether states that stand for different numbers join to top: any two values of a cell do; sets, counters and tallies need a test of at most one number
abbrev pub IsApart : Kind → Test → Type 0
IsApart kind.Cell t = Unit {0}
IsApart kind.Set t = HasOne t
IsApart kind.Max t = HasOne t
IsApart kind.Map t = Unit {0}
IsApart kind.Tally t = HasOne t
