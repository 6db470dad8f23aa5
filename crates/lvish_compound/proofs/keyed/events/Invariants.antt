use Rattle.std.proofs.Common.{◌≡◌, ◌++◌}
use Rattle.lvish_compound.specs.Keyed.{events_of}
use Rattle.lvish_compound.proofs.keyed.events.Given as goal

abbrev pub invariant-loop-key : goal.invariant-loop-key
invariant-loop-key g l = l.events.items ++ events_of g.L.Lattice.events_of l.key-iterator ≡ events_of g.L.Lattice.events_of l.entries
