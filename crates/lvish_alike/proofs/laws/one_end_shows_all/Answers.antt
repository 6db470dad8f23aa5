use Rattle.lvish_alike.proofs.TooLate.{all_lead_early}
use Rattle.lvish_alike.proofs.laws.one_end_shows_all.Goals as goal

pub returns : goal.returns
returns g c = λ p never. all_lead_early _ (c.lawful.ensures p) never
