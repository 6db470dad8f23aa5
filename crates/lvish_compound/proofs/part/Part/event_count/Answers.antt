use Rattle.std.proofs.Common.{◌∙◌}
use Rattle.lvish_compound.proofs.Counted.{levels_counted}
use Rattle.lvish_compound.proofs.part.Part.event_count.Goals as goal

pub returns-in-Max : goal.returns-in-Max
returns-in-Max c = c.from.ensures ∙ c.level_of.ensures ∙ levels_counted c.args.self.now c.in-Max.a c.in-Max.is
