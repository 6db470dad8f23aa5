use Rattle.std.proofs.Common.{length}
use Rattle.std.specs.Option.{option_copied}
use Rattle.lvish_names.specs.Path.{path_parts}
use Rattle.lvish_names.proofs.path.+order.Given as goal

abbrev pub decreases-order : goal.decreases-order
decreases-order g a = length (path_parts (option_copied a.one))
