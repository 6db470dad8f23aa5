use Rattle.lvish_calculus.proofs.laws.runs_keep.Goals as goal

pub returns : goal.returns
returns g c = λ p. Rattle.lvish_calculus.proofs.Growth.runs_keep _ (c.lawful.ensures p)
