use Rattle.std.proofs.Common.{ap, arith}
use Rattle.lvish_deal.specs.Rule.{parts}
use Rattle.lvish_deal.proofs.Rules.{forks, idles}
use Rattle.lvish_deal.proofs.dealing.reach.Goals as goal

pub another-pass-requires : goal.another-pass-requires
another-pass-requires g c = idles _ _

pub another-pass-requires-else-k-number : goal.another-pass-requires-else-k-number
another-pass-requires-else-k-number g c = let e = ap parts c.requires.0.view in forks _ _ (omega (arith, e))
