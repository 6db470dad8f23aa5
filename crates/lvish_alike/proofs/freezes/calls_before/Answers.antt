use Rattle.std.proofs.Common.{refl}
use Rattle.lvish_alike.proofs.Spared.{called_first}
use Rattle.lvish_alike.proofs.freezes.calls_before.Goals as goal

pub returns-in-Some : goal.returns-in-Some
returns-in-Some c = called_first c.args.own.now c.args.marks.now c.in-Some.place c.args.routine c.is_called_from.result c.in-Some.ensures.found c.is_called_from.ensures

pub returns-in-None : goal.returns-in-None
returns-in-None c = ((λ t i m called. c.in-None.ensures.none i m), (λ all. refl))
