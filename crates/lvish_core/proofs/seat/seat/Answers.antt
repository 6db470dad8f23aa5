use Rattle.lvish_core.proofs.Maps.{in_and_out}
use Rattle.lvish_core.proofs.seat.seat.Goals as goal

pub returns-in-Err-clause-places : goal.returns-in-Err-clause-places
returns-in-Err-clause-places g c = in_and_out g.L.Event.PartialEq.eq (λ h k e. (c.handler_names_identical.ensures.eq h k).0 e) c.args.places.now c.insert.new.self c.remove.new.self c.args.name _ _ c.args.place c.in_ok-key.ensures c.in_ok-again.ensures c.requires.new c.in_ok-insert.ensures c.remove.ensures
