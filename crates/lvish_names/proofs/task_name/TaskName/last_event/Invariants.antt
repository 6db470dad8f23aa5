use Rattle.std.proofs.Common.{◌≡◌, ◌≤◌, length}
use Rattle.std.specs.Option.{option_copied}
use Rattle.lvish_names.specs.Names.{handler_of}
use Rattle.lvish_names.specs.Path.{path_parts}
use Rattle.lvish_names.specs.Summaries.{IsPathSummed}
use Rattle.lvish_names.specs.declared.limits.TheConstants.{MOST_PARTS}
use Rattle.lvish_names.proofs.task_name.TaskName.last_event.Given as goal

-- no event stands among the parts that were passed
abbrev pub invariant-loop-path : goal.invariant-loop-path
invariant-loop-path g l = record {
  same_pool : handler_of (path_parts (option_copied l.path)) ≡ handler_of l.self;
  summed : IsPathSummed (option_copied l.path);
  few : length (path_parts (option_copied l.path)) ≤ MOST_PARTS;
}

abbrev pub decreases-loop-path : goal.decreases-loop-path
decreases-loop-path g l = length (path_parts (option_copied l.path))
