use Rattle.lvish_calculus.proofs.laws.no_late_error.Goals as goal

pub returns : goal.returns
returns g c = λ p. Rattle.lvish_calculus.proofs.Runs.no_late_error _ (c.lawful.ensures p)
