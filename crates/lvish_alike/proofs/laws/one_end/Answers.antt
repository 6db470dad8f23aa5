use Rattle.lvish_alike.proofs.OneEnd.{script_one_end}
use Rattle.lvish_alike.proofs.laws.one_end.Goals as goal

pub returns : goal.returns
returns c = λ s code is order. script_one_end _ _ _ _ _ _ _ s code (c.lawful.ensures code) (c.same_runs.ensures s code is) is order
