use Rattle.std.proofs.Common.{◌≡◌, ◌++◌, ◌∷◌, []}
use Rattle.lvish_lattice.specs.GrowSet.{items_of}
use Rattle.lvish_facts.specs.Names.{names_in}
use Rattle.lvish_pointing.specs.Numbers.{name_at}
use Rattle.lvish_pointing.proofs.Texts.{targets_text}
use Rattle.lvish_pointing.proofs.listing.put_row.Given as goal

abbrev pub invariant-loop-node : goal.invariant-loop-node
invariant-loop-node l =
    l.text.items ++ (targets_text (names_in l.fn.names) l.node-iterator ++ 10 ∷ []) ≡ l.fn.text.items ++ (name_at (names_in l.fn.names) l.fn.pointer ++ 58 ∷ (targets_text (names_in l.fn.names) (items_of l.fn.targets) ++ 10 ∷ []))
