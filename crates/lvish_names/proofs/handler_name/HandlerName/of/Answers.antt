use Rattle.lvish_names.proofs.NameLaws.{lt-from_not_deep}
use Rattle.lvish_names.proofs.handler_name.HandlerName.of.Goals as goal

pub invariant_of-result : goal.invariant_of-result
invariant_of-result g c = lt-from_not_deep c.args.adder c.requires
