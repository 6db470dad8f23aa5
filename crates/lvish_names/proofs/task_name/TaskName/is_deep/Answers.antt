use Rattle.std.proofs.Common.{nat_le, sym, ◌∙◌, ap}
use Rattle.lvish_names.proofs.NameLaws.{is_deep-length}
use Rattle.lvish_names.proofs.task_name.TaskName.is_deep.Goals as goal
use Rattle.lvish_names.specs.declared.limits.TheConstants.{MOST_PARTS}

pub returns : goal.returns
returns g c = ap (λ n. nat_le MOST_PARTS n) c.len.ensures.length ∙ sym (is_deep-length c.args.self.now)
