use Rattle.lvish_picture.proofs.laws.drained_at_the_end.Goals as goal

pub returns : goal.returns
returns g c = λ p. Rattle.lvish_picture.proofs.Cursors.drained_at_the_end _ (c.lawful.ensures p)
