use Rattle.std.proofs.Common.{rules, ◌≡◌, [], ◌∙◌, pos, get_or, w64, arith}
use mir.Val.{to_z, of_z}
use Rattle.lvish_compound.specs.EventNames.{entry_event}
use Rattle.lvish_compound.proofs.Pushed.{pushed_more, pushed_all}
use Rattle.lvish_compound.proofs.any_events.entry_events.Goals as goal

pub loop-key-preserved : goal.loop-key-preserved
loop-key-preserved c =
    let event = get_or c.args.events.now c.loop-key.key-index (pos 0, pos 0) in
    let key : to_z w64 (of_z w64 event.0) ≡ event.0 = search rules in
    let number : to_z w64 (of_z w64 event.1) ≡ event.1 = search rules in record {
      items = pushed_more entry_event c.args.events.now c.loop-key.key-index [] _ c.loop-key.invariant.items _ _ _ c.loop-key-test.true (c.entry_event.ensures ∙ (λ i. entry_event (key i, number i))) c.push_reserved.ensures.items;
      room = omega (arith, c.loop-key.invariant.room, c.push_reserved.ensures.len, c.push_reserved.ensures.capacity);
    }

pub returns : goal.returns
returns c = pushed_all entry_event c.args.events.now c.loop-key.key-index [] _ c.loop-key.invariant.items c.loop-key-test.false
