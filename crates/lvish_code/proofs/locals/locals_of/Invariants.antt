use Rattle.std.proofs.Common.{◌≡◌, take}
use Rattle.lvish_code.specs.Numbering.{each_once}
use Rattle.lvish_code.proofs.locals.locals_of.Given as goal

abbrev pub invariant-loop-parameter : goal.invariant-loop-parameter
invariant-loop-parameter l = l.locals ≡ each_once (take l.parameter-index l.parameter-items)
