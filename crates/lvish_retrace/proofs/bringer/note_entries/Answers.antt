use Rattle.lvish_retrace.proofs.Entries.{none_yet, one_more, all_noted}
use Rattle.lvish_retrace.proofs.bringer.note_entries.Goals as goal

pub loop-place-init : goal.loop-place-init
loop-place-init g c = none_yet c.args.variable c.args.step c.args.log.now c.args.from _

pub loop-place-preserved : goal.loop-place-preserved
loop-place-preserved g c =
    rw (c.in_ok-push.ensures.items) (rw (c.in_ok-copy.ensures, c.index-log-place.is)
    (one_more c.args.variable c.args.step c.args.log.now c.args.from c.args.brought.now.items c.loop-place.place c.loop-place.brought.items c.index-log-place.result c.loop-place.auto.place c.loop-place-test.true c.loop-place.invariant))

pub returns : goal.returns
returns g c = all_noted c.args.variable c.args.step c.args.log.now c.args.from c.args.brought.now.items c.loop-place.place c.loop-place.brought.items c.loop-place-test.false c.loop-place.invariant
