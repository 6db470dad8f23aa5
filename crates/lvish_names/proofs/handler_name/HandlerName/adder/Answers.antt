use Rattle.lvish_names.proofs.NameLaws.{not_deep-from_lt}
use Rattle.lvish_names.proofs.handler_name.HandlerName.adder.Goals as goal

pub returns-clause-has_room : goal.returns-clause-has_room
returns-clause-has_room g c = not_deep-from_lt c.self.inside.adder c.self.invariant
