-- Where reads of a script's variables wait.
use Rattle.std.specs.Prelude.{ℕ, ℤ, pos, cond, nat_eq, Option, Some, None, option_map}
use Rattle.std.specs.Ordering.{int_eq}
use Rattle.lvish_lattice.specs.Listed.{one_of}
use Rattle.lvish_compound.specs.declared.any.Any.{Any}
use Rattle.lvish_compound.specs.declared.any_read.AnyRead.{AnyRead}
use Rattle.lvish_compound.specs.Vocabulary.{Event, Kind, Test, Cell, Set, Max, Place}
use Rattle.lvish_compound.specs.declared.kind.Kind.TheVariants as kind
use Rattle.lvish_compound.specs.declared.number_test.Test.TheVariants as test
use Rattle.lvish_compound.specs.declared.place.Place.TheVariants as place

-- at a cell and at an entry, an event of any number can wake a read
abbrev pub spot_by : Kind → ℤ → ℤ
spot_by kind.Cell n = pos 0
spot_by kind.Set n = n
spot_by kind.Max n = n
spot_by kind.Map n = pos 0
spot_by kind.Tally n = n

abbrev pub spot_of : Event → Event
spot_of e = record { key = e.key; kind = e.kind; number = spot_by e.kind e.number }

-- the one number that is waited for
abbrev pub one_tested : Test → Option ℤ
one_tested test.Any = None
one_tested (test.In xs) = one_of int_eq xs
one_tested (test.At n) = Some n

abbrev pub number_by : Kind → Test → Option ℤ
number_by kind.Cell t = Some (pos 0)
number_by kind.Set t = one_tested t
number_by kind.Max t = one_tested t
number_by kind.Map t = None
number_by kind.Tally t = one_tested t

abbrev pub at_spot : ℤ → Kind → ℤ → Event
at_spot k l n = record { key = k; kind = l; number = n }

abbrev pub side_key : ℕ → ℤ
side_key i = cond (nat_eq i 1) (pos 1) (pos 2)

-- the spot of a read of a place
abbrev pub watched_at : Place → Test → Option Event
watched_at place.Cell t = option_map (at_spot (pos 0) kind.Cell) (number_by kind.Cell t)
watched_at place.Set t = option_map (at_spot (pos 0) kind.Set) (number_by kind.Set t)
watched_at place.Max t = option_map (at_spot (pos 0) kind.Max) (number_by kind.Max t)
watched_at (place.Key k) t = Some (at_spot k kind.Map (pos 0))
watched_at (place.Amount k) t = option_map (at_spot k kind.Tally) (number_by kind.Tally t)
watched_at place.Total t = None
watched_at (place.Side i l) t = option_map (at_spot (side_key i) l) (number_by l t)

abbrev pub watched : AnyRead → Option Event
watched r = watched_at r.place r.test
