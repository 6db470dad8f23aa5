-- The events that local states share, however they are kept.
use Rattle.std.specs.Prelude.{ℤ, List, [], map, Option, None, Some}
use Rattle.std.specs.Arc.{arc_value}
use Rattle.std.specs.Global.{Global}
use Rattle.std.specs.declared.sync.Arc.{Arc}
use Rattle.lvish_compound.specs.declared.event.Event.{Event}
use Rattle.lvish_compound.specs.declared.kind.Kind.{Kind}
use Rattle.lvish_task.specs.declared.remaining.Shared.{Shared}
use Rattle.lvish_task.specs.declared.remaining.Shared.TheVariants as shared

-- the events of one key and kind that have these numbers
abbrev pub alike : ℤ → Kind → List ℤ → List Event
alike key kind numbers = map (λ n. record { key = key; kind = kind; number = n }) numbers

-- the events that are shared
abbrev pub events_in : Shared → List Event
events_in (shared.Alike key kind numbers) = alike key kind numbers.items
events_in (shared.Mixed events) = events.items

-- those that are shared, if any are
abbrev pub shared_events : Option (Arc Shared Global) → List Event
shared_events None = []
shared_events (Some all) = events_in (arc_value all)
