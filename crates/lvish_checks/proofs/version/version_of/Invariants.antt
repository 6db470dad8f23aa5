use Rattle.std.proofs.Common.{◌≡◌, drop}
use Rattle.lvish_checks.specs.Checks.{version_of}
use Rattle.lvish_checks.proofs.version.version_of.Given as goal

abbrev pub invariant-loop-line : goal.invariant-loop-line
invariant-loop-line l = version_of (drop l.line-index l.lines) ≡ version_of l.lines
