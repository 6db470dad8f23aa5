use Rattle.lvish_picture.proofs.laws.ends_by_cursors.Goals as goal

pub returns : goal.returns
returns g c = λ p. Rattle.lvish_picture.proofs.Cursors.ends_by_cursors _ (c.lawful.ensures p)
