use Rattle.lvish_calculus.proofs.WorkedRuns.{chain_ends, doomed_at_64}
use Rattle.lvish_calculus.proofs.LawfulRuns.{chain_lawful}
use Rattle.lvish_calculus.proofs.error_examples.deep_fork.Goals as goal

pub returns-clause-deep : goal.returns-clause-deep
returns-clause-deep g = chain_ends

pub returns-clause-doomed : goal.returns-clause-doomed
returns-clause-doomed g = doomed_at_64

pub returns-clause-lawful : goal.returns-clause-lawful
returns-clause-lawful g = chain_lawful
