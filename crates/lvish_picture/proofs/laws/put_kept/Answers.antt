use Rattle.lvish_picture.proofs.laws.put_kept.Goals as goal

pub returns : goal.returns
returns g c = λ p. Rattle.lvish_picture.proofs.Acts.put_kept _ (c.lawful.ensures p) (c.ordered.ensures p)
