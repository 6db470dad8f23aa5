use Rattle.lvish_calculus.proofs.laws.moves_commute.Goals as goal

pub returns-clause-or_doomed : goal.returns-clause-or_doomed
returns-clause-or_doomed g c = λ p. Rattle.lvish_calculus.proofs.Runs.moves_commute _ (c.lawful.ensures p)

pub returns-clause-or_errs : goal.returns-clause-or_errs
returns-clause-or_errs g c = λ p. Rattle.lvish_calculus.proofs.Agreement.commute_or_err _ (c.lawful.ensures p)
