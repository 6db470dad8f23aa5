use Rattle.lvish_picture.proofs.laws.hand_kept.Goals as goal

pub returns : goal.returns
returns g c = λ p. Rattle.lvish_picture.proofs.Hands.hand_kept _ (c.lawful.ensures p)
