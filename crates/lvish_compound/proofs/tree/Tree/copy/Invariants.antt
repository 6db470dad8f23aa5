use Rattle.std.proofs.Common.{◌≡◌, ◌++◌}
use Rattle.lvish_compound.proofs.tree.Tree.copy.Given as goal

abbrev pub invariant-loop-key : goal.invariant-loop-key
invariant-loop-key g l = l.entries ++ l.key-iterator ≡ l.self
