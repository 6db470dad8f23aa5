use Rattle.lvish_calculus.proofs.ReachRuns.{ends_with_reached, only_reached, never_errs, lawful, no_freeze}
use Rattle.lvish_calculus.proofs.examples.walk_reaches.Goals as goal

pub returns-clause-ends : goal.returns-clause-ends
returns-clause-ends g = ends_with_reached

pub returns-clause-stopped : goal.returns-clause-stopped
returns-clause-stopped g = only_reached

pub returns-clause-no_error : goal.returns-clause-no_error
returns-clause-no_error g = never_errs

pub returns-clause-lawful : goal.returns-clause-lawful
returns-clause-lawful g = lawful

pub returns-clause-asks_no_freeze : goal.returns-clause-asks_no_freeze
returns-clause-asks_no_freeze g = no_freeze
