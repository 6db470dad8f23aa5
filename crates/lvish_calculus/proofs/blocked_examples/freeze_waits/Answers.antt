use Rattle.lvish_calculus.proofs.HandingRuns.{blocked_unhanded, blocked_running, enabled_copied}
use Rattle.lvish_calculus.proofs.blocked_examples.freeze_waits.Goals as goal

pub returns-clause-unhanded : goal.returns-clause-unhanded
returns-clause-unhanded g = blocked_unhanded

pub returns-clause-running : goal.returns-clause-running
returns-clause-running g = blocked_running

pub returns-clause-quiet : goal.returns-clause-quiet
returns-clause-quiet g = enabled_copied
