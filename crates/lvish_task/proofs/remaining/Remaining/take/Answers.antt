use Rattle.std.proofs.Common.{◌∙◌, sym}
use Rattle.lvish_task.specs.Remaining.{shared_events}
use Rattle.lvish_task.proofs.Left.{rest_left}
use Rattle.lvish_task.proofs.remaining.Remaining.take.Goals as goal

pub returns : goal.returns
returns c = sym c.self.view_is ∙ rest_left c.self.inside.next (shared_events c.self.inside.all) _ _ (c.self.view_is ∙ c.in_ok-first.ensures.1)
