use Rattle.std.proofs.Common.{◌≡◌}
use Rattle.lvish_compound.specs.Keyed.{add_all}
use Rattle.lvish_compound.proofs.keyed.joined.Given as goal

abbrev pub invariant-loop-key : goal.invariant-loop-key
invariant-loop-key g l = add_all g.K.Ord.cmp g.L.Lattice.least g.L.Lattice.joined l.joined l.key-iterator ≡ add_all g.K.Ord.cmp g.L.Lattice.least g.L.Lattice.joined l.xs l.ys
