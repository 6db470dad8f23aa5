use Rattle.std.proofs.Common.{◌∙◌}
use Rattle.lvish_task.proofs.Freezing.{code_alike, asks_none, never_asks}
use Rattle.lvish_task.proofs.laws.asks_no_freeze.Goals as goal

pub returns-clause-lines : goal.returns-clause-lines
returns-clause-lines c = code_alike

pub returns-clause-code : goal.returns-clause-code
returns-clause-code c = λ s code is none. asks_none code (code_alike s code is ∙ none)

pub returns-clause-statements : goal.returns-clause-statements
returns-clause-statements c = λ s code is none. never_asks _ _ (c.same_runs.ensures s code is) (asks_none code (code_alike s code is ∙ none))
