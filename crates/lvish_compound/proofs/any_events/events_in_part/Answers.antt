use Rattle.std.proofs.Common.{pos, map, sym, ◌∙◌, ap}
use Rattle.std.proofs.lemmas.Result.{IfOk-weaker}
use Rattle.lvish_compound.specs.EventNames.{part_event, number_event}
use Rattle.lvish_compound.specs.Parts.{events_of}
use Rattle.lvish_compound.specs.declared.kind.Kind.TheVariants as kind
use Rattle.lvish_compound.proofs.PartCalls.{set_names, max_names}
use Rattle.lvish_compound.proofs.any_events.events_in_part.Goals as goal

pub returns-in-Set : goal.returns-in-Set
returns-in-Set c = IfOk-weaker c.element_events.result _ _ (λ v e. e ∙ set_names _ ∙ sym (ap (λ s. map (part_event (pos 0)) (events_of s)) c.in-Set.is)) c.element_events.ensures

pub returns-in_ok-events-in-Max : goal.returns-in_ok-events-in-Max
returns-in_ok-events-in-Max c = IfOk-weaker c.numbered.result _ _ (λ v e. e ∙ ap (map (number_event kind.Max)) (c.deref.ensures.value ∙ c.in_ok-events-in-Max.ensures) ∙ max_names _ ∙ sym (ap (λ s. map (part_event (pos 0)) (events_of s)) c.in-Max.is)) c.numbered.ensures
