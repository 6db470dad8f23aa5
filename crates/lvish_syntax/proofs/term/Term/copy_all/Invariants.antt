use Rattle.std.proofs.Common.{◌≡◌, take}
use Rattle.lvish_syntax.proofs.term.Term.copy_all.Given as goal

abbrev pub invariant-loop-term : goal.invariant-loop-term
invariant-loop-term l = l.items.items ≡ take l.term-index l.term-items
