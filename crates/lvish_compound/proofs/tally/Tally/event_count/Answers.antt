use Rattle.std.proofs.Common.{◌∙◌, sym}
use Rattle.lvish_compound.specs.laws.TallyLaws.{events_total}
use Rattle.lvish_compound.proofs.tally.Tally.event_count.Goals as goal

pub returns : goal.returns
returns c = c.from.ensures ∙ c.args.self.now.counted ∙ sym (events_total c.args.self.now)
