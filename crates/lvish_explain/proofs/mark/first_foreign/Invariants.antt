use Rattle.std.proofs.Common.{◌≡◌, ◌+◌, drop}
use Rattle.lvish_explain.specs.Mark.{first_foreign}
use Rattle.lvish_explain.proofs.mark.first_foreign.Given as goal

abbrev pub invariant-loop-k : goal.invariant-loop-k
invariant-loop-k l = first_foreign 1 l.line ≡ first_foreign (l.k + 1) (drop l.k l.line)
