use Rattle.std.proofs.Common.{◌∙◌}
use Rattle.std.proofs.lemmas.Int.{to_z-of_z}
use mir.Syntax.{w64}
use Rattle.lvish_compound.proofs.Values.{counter_is}
use Rattle.lvish_compound.proofs.any.Any.counter.Goals as goal

pub returns-clause-ok : goal.returns-clause-ok
returns-clause-ok c = counter_is c.args.number c.in_ok-max.max c.rising.result (c.in_ok-max.ensures.ok ∙ to_z-of_z w64 c.args.number c.ranges.number) c.rising.ensures
