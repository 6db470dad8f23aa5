use Rattle.std.proofs.Common.{rules, ◌≡◌, ◌∷◌, ◌++◌, ◌∙◌, [], map, w64, ap, sym}
use mir.Val.{to_z, of_z}
use Rattle.std.specs.Map.Iter.{deref_pair}
use Rattle.std.proofs.lemmas.Map.Iter.{rest_more, rest_all}
use Rattle.lvish_compound.specs.EventNames.{entry_event}
use Rattle.lvish_compound.specs.Keyed.{events_of}
use Rattle.lvish_compound.proofs.Pushed.{walked_more, walked_all}
use Rattle.lvish_lattice.specs.Flat as flat
use Rattle.lvish_compound.proofs.any_events.events_in_map.Goals as goal

pub loop-key-preserved-in-Continue-branch-2 : goal.loop-key-preserved-in-Continue-branch-2
loop-key-preserved-in-Continue-branch-2 c =
    let named = c.loop-key.named.items in
    let key = c.in-Some.key.now in
    let number = c.in-Value.number in
    let rest = c.next.new.self in
    let key_read : to_z w64 (of_z w64 key) ≡ key = search rules in
    let number_read : to_z w64 (of_z w64 number) ≡ number = search rules in
    let more = rest_more deref_pair _ _ _ (c.in-Some.key, c.in-Some.cell) c.in-Some.is c.next.ensures.steps ∙ ap (λ cell. (key, cell) ∷ rest) c.in-Value.is in
    walked_more named (map entry_event (events_of flat.events_of rest)) _ c.push.new.self.items (entry_event (key, number))
    (sym (ap (λ es. named ++ map entry_event (events_of flat.events_of es)) more) ∙ c.loop-key.invariant) (c.in_ok-push.ensures.items ∙ ap (λ y. named ++ y ∷ []) (c.entry_event.ensures ∙ (λ i. entry_event (key_read i, number_read i))))

pub loop-key-preserved : goal.loop-key-preserved
loop-key-preserved c =
    let named = c.loop-key.named.items in
    let more = rest_more deref_pair _ _ _ (c.in-Some.key, c.in-Some.cell) c.in-Some.is c.next.ensures.steps ∙ ap (λ cell. (c.in-Some.key.now, cell) ∷ c.next.new.self) c.in_default.is in
    sym (ap (λ es. named ++ map entry_event (events_of flat.events_of es)) more) ∙ c.loop-key.invariant

pub returns : goal.returns
returns c = walked_all c.loop-key.named.items _ _ c.loop-key.invariant (ap (λ es. map entry_event (events_of flat.events_of es)) (rest_all deref_pair _ _ _ c.in-None.is c.next.ensures.steps))
