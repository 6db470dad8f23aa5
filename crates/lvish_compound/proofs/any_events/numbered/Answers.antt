use Rattle.std.proofs.Common.{rules, ◌≡◌, [], ◌∙◌, pos, get_or, w64, ap, arith}
use mir.Val.{to_z, of_z}
use Rattle.lvish_compound.specs.EventNames.{number_event}
use Rattle.lvish_compound.proofs.Pushed.{pushed_more, pushed_all}
use Rattle.lvish_compound.proofs.any_events.numbered.Goals as goal

pub loop-number-preserved : goal.loop-number-preserved
loop-number-preserved c =
    let number = get_or c.args.numbers.now c.loop-number.number-index (pos 0) in
    let read : to_z w64 (of_z w64 number) ≡ number = search rules in record {
      items = pushed_more (number_event c.args.kind) c.args.numbers.now c.loop-number.number-index [] _ c.loop-number.invariant.items _ _ _ c.loop-number-test.true (c.number_event.ensures ∙ ap (number_event c.args.kind) read) c.push_reserved.ensures.items;
      room = omega (arith, c.loop-number.invariant.room, c.push_reserved.ensures.len, c.push_reserved.ensures.capacity);
    }

pub returns : goal.returns
returns c = pushed_all (number_event c.args.kind) c.args.numbers.now c.loop-number.number-index [] _ c.loop-number.invariant.items c.loop-number-test.false
