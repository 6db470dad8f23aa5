use Rattle.std.proofs.Common.{length}
use Rattle.std.specs.Option.{option_copied}
use Rattle.lvish_names.specs.Path.{path_parts}
use Rattle.lvish_names.proofs.path.+are_same.Given as goal

abbrev pub decreases-are_same : goal.decreases-are_same
decreases-are_same g a = length (path_parts (option_copied a.one))
