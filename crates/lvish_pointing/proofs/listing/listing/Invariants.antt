use Rattle.std.proofs.Common.{◌≡◌}
use Rattle.lvish_lattice.specs.GrowSet.{items_of}
use Rattle.lvish_facts.specs.Names.{names_in}
use Rattle.lvish_pointing.specs.Answers.{lines_with, pointed}
use Rattle.lvish_pointing.specs.Rows.{rows_of}
use Rattle.lvish_pointing.proofs.listing.listing.Given as goal

abbrev pub invariant-loop-number : goal.invariant-loop-number
invariant-loop-number l = record {
  text : l.text.items ≡ lines_with (rows_of items_of (names_in l.fn.names) l.fn.answer.states l.number);
  counted : l.count ≡ pointed (rows_of items_of (names_in l.fn.names) l.fn.answer.states l.number);
}
