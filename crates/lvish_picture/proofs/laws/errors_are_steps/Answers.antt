use Rattle.lvish_picture.proofs.laws.errors_are_steps.Goals as goal

pub returns : goal.returns
returns g c = λ p. Rattle.lvish_picture.proofs.Acts.errors_are_steps _ (c.lawful.ensures p)
