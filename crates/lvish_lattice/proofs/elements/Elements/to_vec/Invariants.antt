use Rattle.std.proofs.Common.{◌≡◌, ◌++◌}
use Rattle.lvish_lattice.proofs.elements.Elements.to_vec.Given as goal

abbrev pub invariant-loop-x : goal.invariant-loop-x
invariant-loop-x g l = l.values.items ++ l.x-iterator ≡ l.self
