use Rattle.lvish_compound.specs.laws.TallyLaws.{amounts_below}
use Rattle.lvish_compound.proofs.tally.TallyLattice.leq.Goals as goal

pub returns : goal.returns
returns c = let w = amounts_below c.args.self.now c.args.other.now in (λ h. w.1 (c.leq.ensures.0 h), λ h. c.leq.ensures.1 (w.0 h))
