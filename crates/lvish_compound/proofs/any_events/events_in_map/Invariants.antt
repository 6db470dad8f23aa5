use Rattle.std.proofs.Common.{◌≡◌, ◌++◌, map}
use Rattle.lvish_compound.specs.EventNames.{entry_event}
use Rattle.lvish_compound.specs.Keyed.{events_of}
use Rattle.lvish_compound.specs.MapOf.{map_events_of}
use Rattle.lvish_lattice.specs.Flat as flat
use Rattle.lvish_compound.proofs.any_events.events_in_map.Given as goal

abbrev pub invariant-loop-key : goal.invariant-loop-key
invariant-loop-key l = l.named.items ++ map entry_event (events_of flat.events_of l.key-iterator) ≡ map entry_event (map_events_of l.state)
