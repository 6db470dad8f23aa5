use Rattle.lvish_calculus.proofs.laws.wakes_by_variable.Goals as goal

pub returns-clause-its_variable : goal.returns-clause-its_variable
returns-clause-its_variable g c = λ p. Rattle.lvish_calculus.proofs.Blocked.is_woken_by_its_variable _ (c.lawful.ensures p)

pub returns-clause-all : goal.returns-clause-all
returns-clause-all g c = λ p. Rattle.lvish_calculus.proofs.Blocked.all_are_blocked _ (c.lawful.ensures p)
