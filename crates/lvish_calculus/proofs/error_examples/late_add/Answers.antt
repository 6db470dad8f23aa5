use Rattle.lvish_calculus.proofs.WorkedRuns.{add_first_ends}
use Rattle.lvish_calculus.proofs.LawfulRuns.{late_handler_lawful}
use Rattle.lvish_calculus.proofs.error_examples.late_add.Goals as goal

pub returns-clause-add_first : goal.returns-clause-add_first
returns-clause-add_first g = add_first_ends

pub returns-clause-lawful : goal.returns-clause-lawful
returns-clause-lawful g = late_handler_lawful
