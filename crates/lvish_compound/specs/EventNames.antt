-- The events of a script's variables, named by key, kind and number.
use Rattle.std.specs.Prelude.{ℤ, pos}
use Rattle.lvish_compound.specs.Vocabulary.{Event, Kind, SideOf, One, Two, Ordering}
use Rattle.lvish_compound.specs.declared.kind.Kind.TheVariants.{Cell, Set, Max, Map, Tally}
use Rattle.std.specs.Ordering.{int_cmp, nat_cmp, ordering_then}
use Rattle.lvish_compound.specs.Kinds.{rank}

abbrev pub PartEvent : Type 0
PartEvent = SideOf ℤ (SideOf ℤ ℤ)

-- an event of a part, under a key
abbrev pub part_event : ℤ → PartEvent → Event
part_event k (One n) = record { key = k; kind = Cell; number = n }
part_event k (Two (One n)) = record { key = k; kind = Set; number = n }
part_event k (Two (Two n)) = record { key = k; kind = Max; number = n }

-- an event of a set or a counter that is a variable of its own, and so has no key
abbrev pub number_event : Kind → ℤ → Event
number_event kind n = record { key = pos 0; kind = kind; number = n }

-- a key of a map and its value
abbrev pub entry_event : ℤ × ℤ → Event
entry_event e = record { key = e.0; kind = Map; number = e.1 }

-- a key of a tally and one of the numbers up to its amount
abbrev pub tally_event : ℤ × ℤ → Event
tally_event e = record { key = e.0; kind = Tally; number = e.1 }

-- an event of a side, under the number of the side
abbrev pub side_event : SideOf PartEvent PartEvent → Event
side_event (One e) = part_event (pos 1) e
side_event (Two e) = part_event (pos 2) e

-- the order of events: by key, then kind, then number
abbrev pub event_order : Event → Event → Ordering
event_order d e = ordering_then (int_cmp d.key e.key) (ordering_then (nat_cmp (rank d.kind) (rank e.kind)) (int_cmp d.number e.number))
