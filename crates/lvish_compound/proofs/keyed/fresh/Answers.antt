use Rattle.std.proofs.Common.{◌≡◌, ◌++◌, ◌∙◌}
use Rattle.std.specs.Map.Iter.{deref_pair}
use Rattle.std.proofs.lemmas.Map.Iter.{rest_more, rest_all}
use Rattle.lvish_lattice.specs.Ascending.{ties_are_same}
use Rattle.lvish_lattice.specs.Lattice.{fresh_of}
use Rattle.lvish_compound.specs.Keyed.{at, events_by}
use Rattle.lvish_compound.proofs.Parts.{each_same, each_more, there, top}
use Rattle.lvish_compound.proofs.Brought.{events_more, events_all}
use Rattle.lvish_compound.proofs.keyed.fresh.Goals as goal

pub returns-in_default : goal.returns-in_default
returns-in_default g c =
    let R = g.K.Ord.cmp in
    let l = g.L.Lattice in
    let more = rest_more deref_pair _ _ _ (c.in-Some.key, c.in-Some.part) c.in-Some.is c.next.ensures.steps in
    let none = top R l.least l.joined g.met.K.Ord.total g.met.L.Lattice.is_join c.args.old.now c.args.put.now c.loop-key.key-iterator c.next.new.self c.in-Some.key.now c.in-Some.part.now c.requires.ascending c.iter-key-items.ensures.ascending c.loop-key.invariant.joins more (rw c.in_default.is at c.in_ok-part.ensures) in
    rw none c.new.ensures.items

pub returns : goal.returns
returns g c =
    let R = g.K.Ord.cmp in
    let l = g.L.Lattice in
    let done = rest_all deref_pair _ _ _ c.in-None.is c.next.ensures.steps in
    let all = there R l.least l.joined g.met.K.Ord.total g.met.L.Lattice.is_join (ties_are_same R g.met.K.Plain.identical g.met.K.Ord.matches_eq) c.args.old.now c.args.put.now c.loop-key.key-iterator c.requires.ascending c.iter-key-items.ensures.ascending c.loop-key.invariant.joins done in
    rw all.1 (events_all (λ k p. fresh_of l.joined g.L.Event.PartialEq.eq l.events_of (at R l.least l.joined c.args.old.now k) p) _ c.loop-key.events.items c.loop-key.key-iterator c.loop-key.invariant.events done)

pub loop-key-init : goal.loop-key-init
loop-key-init g c =
    let R = g.K.Ord.cmp in
    let l = g.L.Lattice in
    let same : c.into_iter-key-iterator.result ≡ c.args.put.now = c.into_iter-key-iterator.ensures.into_iter_gives ∙ c.iter-key-items.ensures.same in
    record {
      events = λ i. c.new-events.ensures.items i ++ events_by (λ k p. fresh_of l.joined g.L.Event.PartialEq.eq l.events_of (at R l.least l.joined c.args.old.now k) p) (same i);
      joins = each_same R l.least l.joined g.met.K.Ord.total g.met.L.Lattice.is_join c.args.old.now _ _ same;
    }

pub loop-key-preserved : goal.loop-key-preserved
loop-key-preserved g c =
    let R = g.K.Ord.cmp in
    let l = g.L.Lattice in
    let more = rest_more deref_pair _ _ _ (c.in-Some.key, c.in-Some.part) c.in-Some.is c.next.ensures.steps in
    let brings = rw c.in-Some-2.is at c.in_ok-part.ensures in
    record {
      events = events_more (λ k p. fresh_of l.joined g.L.Event.PartialEq.eq l.events_of (at R l.least l.joined c.args.old.now k) p) _ c.loop-key.events.items c.push_events.new.events.items c.loop-key.key-iterator c.next.new.self c.in-Some.key.now c.in-Some.part.now _ c.loop-key.invariant.events
          more (c.deref.ensures.value ∙ brings.1) c.in_ok-push_events.ensures;
      joins = each_more R l.least l.joined g.met.K.Ord.total g.met.L.Lattice.is_join c.args.old.now c.args.put.now c.loop-key.key-iterator c.next.new.self c.in-Some.key.now c.in-Some.part.now c.loop-key.invariant.joins more brings.0;
    }
