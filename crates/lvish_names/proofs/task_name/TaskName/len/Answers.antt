use Rattle.std.proofs.Common.{ap, ◌∙◌}
use Rattle.lvish_names.proofs.Summaries.{depth-length}
use Rattle.lvish_names.proofs.task_name.TaskName.len.Goals as goal

pub returns-clause-length : goal.returns-clause-length
returns-clause-length g c = ap (λ s. s.depth) c.summary.ensures.of ∙ depth-length c.args.self.now
