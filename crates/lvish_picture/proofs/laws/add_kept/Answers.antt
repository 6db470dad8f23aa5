use Rattle.lvish_picture.proofs.laws.add_kept.Goals as goal

pub returns : goal.returns
returns g c = λ p. Rattle.lvish_picture.proofs.Acts.add_kept _ (c.lawful.ensures p)
