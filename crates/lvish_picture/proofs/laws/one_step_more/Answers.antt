use Rattle.lvish_picture.proofs.laws.one_step_more.Goals as goal

pub returns : goal.returns
returns g c = λ p. Rattle.lvish_picture.proofs.Kept.one_step_more _ (c.lawful.ensures p)
