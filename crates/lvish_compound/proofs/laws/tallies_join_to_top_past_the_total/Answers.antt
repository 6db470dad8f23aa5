use Rattle.lvish_compound.specs.laws.TallyLaws.{tallies_top}
use Rattle.lvish_compound.proofs.laws.tallies_join_to_top_past_the_total.Goals as goal

pub returns : goal.returns
returns c = tallies_top
