use Rattle.lvish_handlers.proofs.Changes.{counted_none}
use Rattle.lvish_handlers.proofs.handlers.Handlers.new.Goals as goal

pub invariant_of-result : goal.invariant_of-result
invariant_of-result g c = counted_none g.L.Event.Ord.cmp _ c.new.ensures.items
