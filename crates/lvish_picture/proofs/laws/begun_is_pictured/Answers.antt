use Rattle.lvish_picture.proofs.laws.begun_is_pictured.Goals as goal

pub returns : goal.returns
returns g c = λ p. Rattle.lvish_picture.proofs.Kept.begun_is_pictured _ (c.lawful.ensures p)
