use Rattle.std.proofs.Common.{rules, ap}
use Rattle.lvish_lattice.specs.GrowSet.{same_set}
use Rattle.lvish_rules.specs.declared.moves.Move.TheVariants.{Put}
use Rattle.lvish_pointing.proofs.pointing.point.Goals as goal

pub returns : goal.returns
returns c = ap (λ s. Put c.args.pointer.number s) (same_set c.one.result _ (search rules))
