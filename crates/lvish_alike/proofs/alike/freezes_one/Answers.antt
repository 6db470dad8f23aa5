use Rattle.std.proofs.Common.{refl}
use Rattle.lvish_alike.proofs.Marks.{freezes_none, freezes_only}
use Rattle.lvish_alike.proofs.alike.freezes_one.Goals as goal

pub returns-in-None : goal.returns-in-None
returns-in-None c = ((λ t. freezes_none c.args.routines.now c.args.marks.now c.in-None.ensures.nowhere), (λ one. refl))

pub returns-in-Some : goal.returns-in-Some
returns-in-Some c = freezes_only c.args.routines.now c.args.marks.now c.in-Some.one c.first-in-Some.result c.is_none.result c.is_none.ensures c.in-Some.ensures.found c.first-in-Some.ensures.found c.first-in-Some.ensures.nowhere
