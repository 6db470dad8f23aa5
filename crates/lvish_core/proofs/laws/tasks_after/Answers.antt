use Rattle.lvish_core.proofs.laws.tasks_after.Goals as goal

pub returns-clause-others : goal.returns-clause-others
returns-clause-others g c = λ p. Rattle.lvish_core.proofs.After.others_stay _ (c.blocked_tasks.ensures.until_touched p)

pub returns-clause-made : goal.returns-clause-made
returns-clause-made g c = λ p. Rattle.lvish_core.proofs.After.starts_as_said _ (c.lawful.ensures p)
