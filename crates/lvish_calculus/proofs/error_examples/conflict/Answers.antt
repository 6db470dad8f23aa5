use Rattle.lvish_calculus.proofs.WorkedRuns.{undoomed_after_fork, doomed_after_two}
use Rattle.lvish_calculus.proofs.LawfulRuns.{cells_lawful}
use Rattle.lvish_calculus.proofs.error_examples.conflict.Goals as goal

pub returns-clause-undoomed : goal.returns-clause-undoomed
returns-clause-undoomed g = undoomed_after_fork

pub returns-clause-doomed : goal.returns-clause-doomed
returns-clause-doomed g = doomed_after_two

pub returns-clause-lawful : goal.returns-clause-lawful
returns-clause-lawful g = cells_lawful
