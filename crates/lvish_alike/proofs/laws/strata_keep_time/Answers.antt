use Rattle.lvish_alike.proofs.Strata.{never_too_late}
use Rattle.lvish_alike.proofs.laws.strata_keep_time.Goals as goal

pub returns : goal.returns
returns g c = λ p waited strata. never_too_late _ (c.lawful.ensures p) waited strata
