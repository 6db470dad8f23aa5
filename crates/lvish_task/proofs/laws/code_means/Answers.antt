use Rattle.lvish_task.proofs.Meant.{code_meant, variables_alike}
use Rattle.lvish_task.proofs.laws.code_means.Goals as goal

pub returns-clause-alike : goal.returns-clause-alike
returns-clause-alike c = code_meant

pub returns-clause-variables : goal.returns-clause-variables
returns-clause-variables c = variables_alike
