use Rattle.std.proofs.Common.{◌≡◌, map, take, length}
use Rattle.lvish_facts.specs.Names.{names_in}
use Rattle.lvish_pointing.specs.Numbers.{spelled, named, AreInside}
use Rattle.lvish_pointing.proofs.numbering.number_facts.Given as goal

abbrev pub invariant-loop-fact : goal.invariant-loop-fact
invariant-loop-fact l = record {
  named : map (named (names_in l.fn.names)) l.nodes.items ≡ map spelled (take l.fact-index l.facts);
  inside : AreInside (length (names_in l.fn.names)) l.nodes.items;
}
