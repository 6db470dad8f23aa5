use Rattle.lvish_calculus.proofs.laws.runs_grow.Goals as goal

pub returns : goal.returns
returns g c = λ p. Rattle.lvish_calculus.proofs.Growth.runs_grow _ (c.lawful.ensures p)
