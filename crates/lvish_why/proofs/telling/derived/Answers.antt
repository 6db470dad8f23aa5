use Rattle.lvish_why.proofs.There.{found}
use Rattle.lvish_why.proofs.telling.derived.Goals as goal

pub returns : goal.returns
returns c =
    let says = rw (c.event-event.ensures, c.kinds.ensures, c.as_slice.ensures.value) at c.put_asked-place.ensures in
    rw (c.is_some-is_there.ensures) (found c.args.code.now.kinds c.args.asked c.args.told.now.brought.items c.put_asked-place.result says)
