use Rattle.std.proofs.Common.{take}
use Rattle.lvish_checks.specs.Known.{AreArities}
use Rattle.lvish_checks.proofs.declared.arities_of.Given as goal

abbrev pub invariant-loop-line : goal.invariant-loop-line
invariant-loop-line l = AreArities l.arities (take l.line-index l.lines)
