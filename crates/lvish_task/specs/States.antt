-- The states and the reads of a script's puts and gets.
use Rattle.std.specs.Prelude.{◌≡◌, ℤ, Bool, true, false, List, Option, Some, None, option_and_then, refl}
use Rattle.lvish_compound.specs.Places.{test_fits}
use Rattle.lvish_compound.specs.StateReads.{state_of}
use Rattle.lvish_compound.specs.States.{entry, side, amount, events_of}
use Rattle.lvish_task.specs.Vocabulary.{Any, AnyRead, Event, Test, Place}
use Rattle.lvish_compound.specs.declared.kind.Kind.TheVariants as kind
use Rattle.lvish_compound.specs.declared.place.Place.TheVariants as place

-- what a put of a number joins at a place, None where no counter and no amount is this number; a total is only read
unfoldable pub put_at : Place → ℤ → Option Any
put_at place.Cell n = state_of kind.Cell n
put_at place.Set n = state_of kind.Set n
put_at place.Max n = state_of kind.Max n
put_at (place.Key k) n = Some (entry k n)
put_at (place.Side i l) n = option_and_then (side i) (state_of l n)
put_at (place.Amount k) n = amount k n
put_at place.Total n = None

-- the read of a place by a test that fits it
abbrev pub read_by : (p : Place) (t : Test) (b : Bool) → test_fits p t ≡ b → Option AnyRead
read_by p t true e = Some (record { place = p; test = t; fits = e })
read_by p t false e = None

-- the read of a place by a test, None where a number in it is none of what is read there
unfoldable pub read_at : Place → Test → Option AnyRead
read_at p t = read_by p t (test_fits p t) refl

-- the events below a state, ascending
unfoldable pub events_below : Any → List Event
events_below s = events_of s
