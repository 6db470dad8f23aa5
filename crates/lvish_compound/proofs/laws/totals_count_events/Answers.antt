use Rattle.lvish_compound.specs.laws.TallyLaws.{events_total}
use Rattle.lvish_compound.proofs.laws.totals_count_events.Goals as goal

pub returns : goal.returns
returns c = events_total
