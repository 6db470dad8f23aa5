use Rattle.std.proofs.Common.{◌≡◌, ◌↔◌, ◌++◌}
use Rattle.lvish_lattice.specs.Lattice.{fresh_of}
use Rattle.lvish_compound.specs.Keyed.{at, events_by}
use Rattle.lvish_compound.proofs.Parts.{Each}
use Rattle.lvish_compound.proofs.keyed.fresh.Given as goal

abbrev pub invariant-loop-key : goal.invariant-loop-key
invariant-loop-key g l = record {
  events : l.events.items ++ events_by (λ k p. fresh_of g.L.Lattice.joined g.L.Event.PartialEq.eq g.L.Lattice.events_of (at g.K.Ord.cmp g.L.Lattice.least g.L.Lattice.joined l.old k) p) l.key-iterator ≡ events_by (λ k p. fresh_of g.L.Lattice.joined g.L.Event.PartialEq.eq g.L.Lattice.events_of (at g.K.Ord.cmp g.L.Lattice.least g.L.Lattice.joined l.old k) p) l.put;
  joins : Each g.K.Ord.cmp g.L.Lattice.least g.L.Lattice.joined g.met.K.Ord.total g.met.L.Lattice.is_join l.old l.key-iterator ↔ Each g.K.Ord.cmp g.L.Lattice.least g.L.Lattice.joined g.met.K.Ord.total g.met.L.Lattice.is_join l.old l.put;
}
