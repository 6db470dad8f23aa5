use Rattle.lvish_core.proofs.laws.blocked_tasks.Goals as goal

pub returns-clause-until_touched : goal.returns-clause-until_touched
returns-clause-until_touched g c = λ p. Rattle.lvish_core.proofs.Blocked.is_blocked_until_touched _ (c.lawful.ensures p) (c.wakes_by_variable.ensures.its_variable p)

pub returns-clause-ends : goal.returns-clause-ends
returns-clause-ends g c = λ p. Rattle.lvish_core.proofs.Blocked.ends_by_counts _ (c.wakes_by_variable.ensures.all p) (c.ends_by_cursors.ensures p)
