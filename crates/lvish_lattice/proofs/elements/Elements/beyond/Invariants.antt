use Rattle.std.proofs.Common.{not, filter, ◌≡◌, ◌++◌}
use Rattle.std.specs.Set.{is_member}
use Rattle.lvish_lattice.proofs.elements.Elements.beyond.Given as goal

abbrev pub invariant-loop-x : goal.invariant-loop-x
invariant-loop-x g l = l.beyond.items ++ filter (λ e. not (is_member g.V.PartialEq.eq l.self e)) l.x-iterator ≡ filter (λ e. not (is_member g.V.PartialEq.eq l.self e)) l.others
