use Rattle.std.proofs.Common.{length}
use Rattle.std.specs.Option.{option_copied}
use Rattle.lvish_names.specs.Path.{path_parts}
use Rattle.lvish_names.proofs.path.+feed.Given as goal

abbrev pub decreases-feed : goal.decreases-feed
decreases-feed g a = length (path_parts (option_copied a.path))
