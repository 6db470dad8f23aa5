use Rattle.std.proofs.Common.{◌≡◌, drop}
use Rattle.std.specs.Option.{option_copied}
use Rattle.lvish_names.specs.Path.{path_parts}
use Rattle.lvish_names.proofs.path.before.Given as goal

-- as many steps as are left lead on to where all steps lead from the start
abbrev pub invariant-loop-left : goal.invariant-loop-left
invariant-loop-left g l = drop l.left (path_parts (option_copied l.at)) ≡ drop l.fn.steps (path_parts (option_copied l.fn.link))

abbrev pub decreases-loop-left : goal.decreases-loop-left
decreases-loop-left g l = l.left
