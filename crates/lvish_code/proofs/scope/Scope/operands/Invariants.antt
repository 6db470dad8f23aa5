use Rattle.std.proofs.Common.{◌≡◌, map, take}
use Rattle.lvish_code.specs.Compile.{operand_of}
use Rattle.lvish_code.specs.InScope.{names_in}
use Rattle.lvish_code.proofs.scope.Scope.operands.Given as goal

abbrev pub invariant-loop-term : goal.invariant-loop-term
invariant-loop-term l = l.operands.items ≡ map (operand_of (names_in l.self)) (take l.term-index l.terms)
