use Rattle.lvish_task.proofs.Left.{first_got}
use Rattle.lvish_task.proofs.remaining.Remaining.first.Goals as goal

pub returns : goal.returns
returns c = rw c.at.ensures (first_got _)
