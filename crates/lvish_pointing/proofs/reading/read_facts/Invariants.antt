use Rattle.std.proofs.Common.{◌≡◌, map, take}
use Rattle.lvish_facts.specs.Names.{names_in}
use Rattle.lvish_pointing.specs.Numbers.{spelled}
use Rattle.lvish_pointing.proofs.Lines.{facts_in, NoneMissing}
use Rattle.lvish_pointing.proofs.reading.read_facts.Given as goal

abbrev pub invariant-loop-place : goal.invariant-loop-place
invariant-loop-place l = record {
  facts : map spelled l.facts.items ≡ facts_in (take l.place (names_in l.lines.items));
  fine : NoneMissing (names_in l.lines.items) l.place;
}
