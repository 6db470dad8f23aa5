use Rattle.lvish_calculus.proofs.ModelRuns.{one_is_model}
use Rattle.lvish_calculus.proofs.WorkedRuns.{put_first_ends}
use Rattle.lvish_calculus.proofs.LawfulRuns.{late_lawful}
use Rattle.lvish_calculus.proofs.examples.late_put.Goals as goal

pub returns-clause-put_first : goal.returns-clause-put_first
returns-clause-put_first g = put_first_ends

pub returns-clause-lawful : goal.returns-clause-lawful
returns-clause-lawful g = late_lawful

pub returns-clause-model : goal.returns-clause-model
returns-clause-model g = one_is_model
