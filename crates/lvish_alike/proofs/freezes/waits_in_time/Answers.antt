use Rattle.std.proofs.Common.{refl}
use Rattle.lvish_alike.proofs.Spared.{waited_first}
use Rattle.lvish_alike.proofs.freezes.waits_in_time.Goals as goal

pub returns-in-Some : goal.returns-in-Some
returns-in-Some c = waited_first c.args.own.now c.args.marks.now c.in-Some.place c.args.pool c.is_waited_for.result c.in-Some.ensures.found c.is_waited_for.ensures

pub returns-in-None : goal.returns-in-None
returns-in-None c = ((λ t i m. absurd (c.in-None.ensures.none i m)), (λ all. refl))
