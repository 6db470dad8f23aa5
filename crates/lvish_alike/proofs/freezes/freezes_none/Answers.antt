use Rattle.lvish_alike.proofs.Spared.{none_frozen}
use Rattle.lvish_alike.proofs.freezes.freezes_none.Goals as goal

pub returns : goal.returns
returns c = none_frozen c.args.own.now c.args.marks.now c.first_freeze.result c.is_none.result c.is_none.ensures c.first_freeze.ensures.found c.first_freeze.ensures.none
