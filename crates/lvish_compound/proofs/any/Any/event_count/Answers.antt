use Rattle.std.proofs.Common.{length, sym, ◌∙◌, ap}
use Rattle.std.proofs.lemmas.List.{length-map}
use Rattle.lvish_compound.specs.EventNames.{entry_event}
use Rattle.lvish_compound.specs.MapOf.{map_events_of}
use Rattle.lvish_compound.specs.States.{events_of}
use Rattle.lvish_compound.proofs.Counted.{cells_counted}
use Rattle.lvish_compound.proofs.any.Any.event_count.Goals as goal

pub returns-in-Map : goal.returns-in-Map
returns-in-Map c = c.len.ensures.value ∙ ap length c.entries.ensures.same ∙ cells_counted c.in-Map.a.state ∙ sym (length-map (map_events_of c.in-Map.a.state) entry_event) ∙ sym (ap (λ s. length (events_of s)) c.in-Map.is)
