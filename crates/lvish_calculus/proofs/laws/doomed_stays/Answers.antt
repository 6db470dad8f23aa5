use Rattle.lvish_calculus.proofs.laws.doomed_stays.Goals as goal

pub returns : goal.returns
returns g c = λ p. Rattle.lvish_calculus.proofs.Runs.doomed_stays _ (c.lawful.ensures p)
