use Rattle.std.proofs.Common.{◌≡◌, ◌++◌, map}
use Rattle.lvish_compound.specs.EventNames.{number_event}
use Rattle.lvish_lattice.specs.GrowSet.{items_of}
use Rattle.lvish_compound.specs.declared.kind.Kind.TheVariants as kind
use Rattle.lvish_compound.proofs.any_events.element_events.Given as goal

abbrev pub invariant-loop-number : goal.invariant-loop-number
invariant-loop-number l = l.named.items ++ map (number_event kind.Set) l.number-iterator ≡ map (number_event kind.Set) (items_of l.set)
