use Rattle.lvish_outcome.specs.Standing.{task_text}
use Rattle.lvish_outcome.proofs.standing.push_task.Goals as goal

pub returns : goal.returns
returns c = c.add_asked.ensures (task_text c.args.task.now) c.text-name.ensures
