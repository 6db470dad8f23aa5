use Rattle.std.proofs.Common.{take}
use Rattle.lvish_checks.specs.Checks.{declarations}
use Rattle.lvish_checks.specs.Known.{AreKinds, AreOfPools}
use Rattle.lvish_checks.proofs.kinds_by_name.kinds_of.Given as goal

abbrev pub invariant-loop-line : goal.invariant-loop-line
invariant-loop-line l = record {
  variables : AreKinds l.kinds.variables (declarations (take l.line-index l.lines));
  pools : AreOfPools l.kinds.pools (declarations (take l.line-index l.lines));
}
