use Rattle.std.proofs.Common.{length}
use Rattle.std.specs.Option.{option_copied}
use Rattle.lvish_names.specs.Path.{path_parts}
use Rattle.lvish_names.proofs.task_name.+print.Given as goal

abbrev pub decreases-print : goal.decreases-print
decreases-print g a = length (path_parts (option_copied a.path))
