use Rattle.lvish_calculus.proofs.laws.handing_kept.Goals as goal

pub returns : goal.returns
returns g c = λ p. Rattle.lvish_calculus.proofs.Handing.handing_kept _ (c.lawful.ensures p)
