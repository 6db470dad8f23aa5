use Rattle.lvish_core.proofs.laws.hands_to_each.Goals as goal

pub returns : goal.returns
returns g c = λ p k xs run. c.handing_kept.ensures p xs _ run.reached
