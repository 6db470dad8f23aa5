use Rattle.std.proofs.Common.{◌≡◌, [], false, replicate}
use Rattle.lvish_core.proofs.begun.bottoms.Given as goal

abbrev pub invariant-loop-variable : goal.invariant-loop-variable
invariant-loop-variable g l = l.variables.items ≡ replicate l._variable (record { state = g.L.Lattice.least; frozen = false; log = [] })
