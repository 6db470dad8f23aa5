use Rattle.std.proofs.Common.{◌++◌, ◌∙◌}
use Rattle.std.specs.Map.Iter.{deref_pair}
use Rattle.std.proofs.lemmas.Map.Iter.{rest_more, rest_all}
use Rattle.lvish_compound.specs.Keyed.{events_of}
use Rattle.lvish_compound.proofs.Brought.{events_more, events_all}
use Rattle.lvish_compound.proofs.keyed.events.Goals as goal

pub loop-key-init : goal.loop-key-init
loop-key-init g c = λ i. c.new-events.ensures.items i ++ events_of g.L.Lattice.events_of ((c.into_iter-key-iterator.ensures.into_iter_gives ∙ c.iter-key-items.ensures.same) i)

pub loop-key-preserved : goal.loop-key-preserved
loop-key-preserved g c = events_more (λ _ v. g.L.Lattice.events_of v) _ c.loop-key.events.items c.push_events.new.events.items c.loop-key.key-iterator c.next.new.self c.in-Some.key.now c.in-Some.part.now _ c.loop-key.invariant
    (rest_more deref_pair _ _ _ (c.in-Some.key, c.in-Some.part) c.in-Some.is c.next.ensures.steps) (c.deref.ensures.value ∙ c.in_ok-part.ensures) c.in_ok-push_events.ensures

pub returns : goal.returns
returns g c = events_all (λ _ v. g.L.Lattice.events_of v) _ c.loop-key.events.items c.loop-key.key-iterator c.loop-key.invariant (rest_all deref_pair _ _ _ c.in-None.is c.next.ensures.steps)
