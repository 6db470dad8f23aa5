use Rattle.lvish_calculus.proofs.HandingRuns.{blocked_at_none, blocked_at_one, enabled_at_three, level_ends}
use Rattle.lvish_calculus.proofs.LawfulRuns.{levels_lawful, level_asks_no_freeze}
use Rattle.lvish_calculus.proofs.ModelRuns.{levels_never_err}
use Rattle.lvish_calculus.proofs.blocked_examples.get_waits.Goals as goal

pub returns-clause-at_none : goal.returns-clause-at_none
returns-clause-at_none g = blocked_at_none

pub returns-clause-at_one : goal.returns-clause-at_one
returns-clause-at_one g = blocked_at_one

pub returns-clause-at_three : goal.returns-clause-at_three
returns-clause-at_three g = enabled_at_three

pub returns-clause-ends : goal.returns-clause-ends
returns-clause-ends g = level_ends

pub returns-clause-lawful : goal.returns-clause-lawful
returns-clause-lawful g = levels_lawful

pub returns-clause-asks_no_freeze : goal.returns-clause-asks_no_freeze
returns-clause-asks_no_freeze g = level_asks_no_freeze

pub returns-clause-no_error : goal.returns-clause-no_error
returns-clause-no_error g = levels_never_err
