use Rattle.std.proofs.Common.{◌≡◌}
use Rattle.std.specs.List.{list_all}
use Rattle.std.specs.Set.{is_member}
use Rattle.lvish_lattice.proofs.elements.Elements.is_within.Given as goal

abbrev pub invariant-loop-x : goal.invariant-loop-x
invariant-loop-x g l = list_all (is_member g.V.PartialEq.eq l.other) l.self ≡ list_all (is_member g.V.PartialEq.eq l.other) l.x-iterator
