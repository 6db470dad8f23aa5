use Rattle.lvish_picture.proofs.laws.freeze_kept.Goals as goal

pub returns : goal.returns
returns g c = λ p. Rattle.lvish_picture.proofs.Acts.freeze_kept _ (c.lawful.ensures p)
