use Rattle.lvish_compound.specs.laws.TallyLaws.{total_reached, total_grows}
use Rattle.lvish_compound.proofs.laws.totals_are_reached.Goals as goal

pub returns-clause-reached : goal.returns-clause-reached
returns-clause-reached c = total_reached

pub returns-clause-grows : goal.returns-clause-grows
returns-clause-grows c = total_grows
